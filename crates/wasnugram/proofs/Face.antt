-- An export's promise leaves one result, since its call's does.
use mathlib.Core.Path.{◌≡◌, sym, ap, ◌∙◌}
use Rattle.wasnugram.specs.Face.{FaceIsUnique}

pub face_is_unique : FaceIsUnique
face_is_unique Result Flat Memory flattens promise one r s p q =
    let same = one (p.result, r.1) (q.result, s.1) p.promised q.promised in
    let given : r.0 ≡ s.0 = p.flat ∙ (ap (λ (x : Result × Memory). flattens x.0) same ∙ sym q.flat) in
    λ i. (given i, (same i).1)

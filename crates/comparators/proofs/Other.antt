-- A place that is another makes the whole another.
use Rattle.std.proofs.Common.{◌≡◌, ℕ, zero, suc, ◌<◌, ◌≤◌, Bool, true, List, length, get_or, arith}
use Rattle.std.proofs.lemmas.List.{get_or_default}
use Rattle.comparators.specs.Compare.{other_place, some_other, changed}

found : (other : ℕ → Bool) (n i : ℕ) → i < n → other i ≡ true → some_other other n ≡ true
unfolding some_other
found other zero i h t = absurd (omega arith)
found other (suc n) i h t = let below = found other n i in grind (arith, below)

pub changed_at : {A : Type 0} (differs : A → ℕ → Bool) (blank d : A) (output : List A) (list : List ℕ) (i : ℕ) → i < length list
    → length list ≤ length output → differs (get_or output i d) (get_or list i 0) ≡ true
    → true ≡ changed (other_place differs blank output) list
changed_at differs blank d output list i h room t =
    let same = get_or_default output i blank d (omega arith) in
    let e = found (other_place differs blank output list) (length list) i h (rw same t) in
    grind (arith, e)

-- A file that meets every demand: what its parts are, and that the test finds no fault exactly there.
use Prim.Native.Nat.{ℕ, zero, suc, ◌+◌, ◌≤◌, ◌<◌}
use mathlib.Core.Path.{◌≡◌, refl, sym, ap, ap₂, ◌∙◌}
use mathlib.Core.Bool.{Bool, true, false, cond}
use mathlib.Core.List.{List, [], ◌∷◌, ◌++◌}
use native.Mathlib.Nat.{not-suc-le-zero, le_of_suc-le-suc, lt-suc_self, eq-or-lt_of_le}
use native.Mathlib.Omega.{arith}
use lib.Dec.{ltb}
use lib.ListN.{length, get_or, take, drop, set, length-append, length-map}
use lib.Seq.{take_all, take-take, drop-drop}
use mathlib.Core.Logic.{⊎_elim}
use borrow.Author.Tests.{eqb-true, eq-eqb, ltb-false, le-ltb}
use Rattle.lists.specs.Lists.{flat, part}
use Rattle.lists.proofs.Parts.{drop_take}
use Rattle.checks.proofs.Tests.{or_false}
use Rattle.file_layout.specs.Checks.{Demand, any, byte, first_wrong, holes, known, meets, some_wrong}

unfoldable pub Fits : List Demand → List ℕ → Type 0
Fits [] [] = Unit
Fits [] (b ∷ file) = ⊥
Fits (d ∷ ds) [] = ⊥
Fits (d ∷ ds) (b ∷ file) = (meets d b ≡ true) × Fits ds file

pub fits_length : (ds : List Demand) (file : List ℕ) → Fits ds file → length file ≡ length ds
unfolding Fits
fits_length [] [] h = refl
fits_length [] (b ∷ file) h = absurd h
fits_length (d ∷ ds) [] h = absurd h
fits_length (d ∷ ds) (b ∷ file) h = ap suc (fits_length ds file h.1)

-- ---- the test
wrong_none : (ds : List Demand) (file : List ℕ) → length ds ≤ first_wrong ds file → length file ≤ first_wrong ds file → Fits ds file
unfolding Fits first_wrong
wrong_none [] [] h k = tt
wrong_none [] (b ∷ file) h k = absurd (not-suc-le-zero k)
wrong_none (d ∷ ds) [] h k = absurd (not-suc-le-zero h)
wrong_none (d ∷ ds) (b ∷ file) h k = go (meets d b) refl (wrong_none ds file) h k
  where
    go : (t : Bool) → meets d b ≡ t → (length ds ≤ first_wrong ds file → length file ≤ first_wrong ds file → Fits ds file)
        → suc (length ds) ≤ cond t (suc (first_wrong ds file)) 0 → suc (length file) ≤ cond t (suc (first_wrong ds file)) 0
        → (meets d b ≡ true) × Fits ds file
    go true e rest l m = (e, rest (le_of_suc-le-suc l) (le_of_suc-le-suc m))
    go false e rest l m = absurd (not-suc-le-zero l)

pub fits_of : (ds : List Demand) (file : List ℕ) → some_wrong ds file ≡ false → Fits ds file
fits_of ds file h =
    let p = or_false (ltb (first_wrong ds file) (length ds)) (ltb (first_wrong ds file) (length file)) h in
    wrong_none ds file (ltb-false _ _ p.0) (ltb-false _ _ p.1)

fits_whole : (ds : List Demand) (file : List ℕ) → Fits ds file → first_wrong ds file ≡ length ds
unfolding Fits first_wrong
fits_whole [] [] h = refl
fits_whole [] (b ∷ file) h = absurd h
fits_whole (d ∷ ds) [] h = absurd h
fits_whole (d ∷ ds) (b ∷ file) h = rw h.0 (ap suc (fits_whole ds file h.1))

pub of_fits : (ds : List Demand) (file : List ℕ) → Fits ds file → some_wrong ds file ≡ false
of_fits ds file h = rw (fits_length ds file h, fits_whole ds file h, le-ltb (length ds) (length ds) (omega arith))

-- ---- by parts
pub fits_join : (p q : List Demand) (f g : List ℕ) → Fits p f → Fits q g → Fits (p ++ q) (f ++ g)
unfolding Fits
fits_join [] q [] g h k = k
fits_join [] q (b ∷ f) g h k = absurd h
fits_join (d ∷ p) q [] g h k = absurd h
fits_join (d ∷ p) q (b ∷ f) g h k = (h.0, fits_join p q f g h.1 k)

fits_split : (p q : List Demand) (f : List ℕ) → Fits (p ++ q) f → Fits p (take (length p) f) × Fits q (drop (length p) f)
unfolding Fits
fits_split [] q f h = (tt, h)
fits_split (d ∷ p) q [] h = absurd h
fits_split (d ∷ p) q (b ∷ f) h = let r = fits_split p q f h.1 in ((h.0, r.0), r.1)

pub known_fits : (l : List ℕ) → Fits (known l) l
unfolding Fits
known_fits [] = tt
known_fits (x ∷ l) = (eq-eqb x x refl, known_fits l)

pub fits_known : (l f : List ℕ) → Fits (known l) f → f ≡ l
unfolding Fits
fits_known [] [] h = refl
fits_known [] (b ∷ f) h = absurd h
fits_known (x ∷ l) [] h = absurd h
fits_known (x ∷ l) (b ∷ f) h = ap₂ ◌∷◌ (sym (eqb-true x b h.0)) (fits_known l f h.1)

pub holes_fit : (n : ℕ) (f : List ℕ) → length f ≡ n → Fits (holes n) f
unfolding Fits
holes_fit zero [] h = tt
holes_fit zero (b ∷ f) h = absurd (omega arith)
holes_fit (suc n) [] h = absurd (omega arith)
holes_fit (suc n) (b ∷ f) h = (refl, holes_fit n f (omega arith))

pub flat_fits : (n : ℕ) (p : ℕ → List Demand) (f : ℕ → List ℕ) → ((i : ℕ) → i < n → Fits (p i) (f i)) → Fits (flat n p) (flat n f)
unfolding flat
flat_fits zero p f h = unfold Fits in tt
flat_fits (suc n) p f h = fits_join (flat n p) (p n) (flat n f) (f n) (flat_fits n p f (λ i l. h i (omega arith))) (h n (lt-suc_self n))

-- ---- at a place of the file
abbrev pub FitsAt : List Demand → ℕ → List ℕ → Type 0
FitsAt ds a file = Fits ds (part a (length ds) file)

pub at_split : (p q : List Demand) (a : ℕ) (f : List ℕ) → FitsAt (p ++ q) a f → FitsAt p a f × FitsAt q (a + length p) f
at_split p q a f h =
    let k : Fits (p ++ q) (part a (length p + length q) f) = rw (length-append p q) at h in
    let s = fits_split p q (part a (length p + length q) f) k in
    let t : take (length p) (part a (length p + length q) f) ≡ part a (length p) f = take-take (length p) (length p + length q) (drop a f)
    (omega arith) in
    let d : drop (length p) (part a (length p + length q) f) ≡ part (a + length p) (length q) f = drop_take (length p) (length q) (drop a f)
    ∙ ap (take (length q)) (drop-drop (length p) a f) in
    (rw t at s.0, rw d at s.1)

pub at_flat : (n : ℕ) (p : ℕ → List Demand) (a : ℕ) (f : List ℕ) → FitsAt (flat n p) a f → (i : ℕ) → i < n → FitsAt (p i) (a + length (flat i p)) f
unfolding flat
at_flat zero p a f h i l = absurd (not-suc-le-zero l)
at_flat (suc n) p a f h i l =
    let s = at_split (flat n p) (p n) a f h in
    ⊎_elim
    (λ (e : i ≡ n). rw e s.1)
    (λ (k : i < n). at_flat n p a f s.0 i k)
    (eq-or-lt_of_le (le_of_suc-le-suc l))

pub at_known : (l : List ℕ) (a : ℕ) (f : List ℕ) → FitsAt (known l) a f → part a (length l) f ≡ l
at_known l a f h = fits_known l _ (rw (length-map l byte) at h)

pub fits_at : (p : List Demand) (f : List ℕ) → Fits p f → FitsAt p 0 f
fits_at p f h = rw (take_all (length p) f (omega (arith, fits_length p f h))) h

-- ---- one byte stored
pub meets_at : (ds : List Demand) (f : List ℕ) → Fits ds f → (p : ℕ) → p < length f → meets (get_or ds p any) (get_or f p 0) ≡ true
unfolding Fits
meets_at [] [] h p l = absurd (not-suc-le-zero l)
meets_at [] (b ∷ f) h p l = absurd h
meets_at (d ∷ ds) [] h p l = absurd h
meets_at (d ∷ ds) (b ∷ f) h zero l = h.0
meets_at (d ∷ ds) (b ∷ f) h (suc p) l = meets_at ds f h.1 p (le_of_suc-le-suc l)

pub fits_set : (ds : List Demand) (f : List ℕ) (p y : ℕ) → Fits ds f → meets (get_or ds p any) y ≡ true → Fits ds (set f p y)
unfolding Fits
fits_set [] [] p y h m = tt
fits_set [] (b ∷ f) p y h m = absurd h
fits_set (d ∷ ds) [] p y h m = absurd h
fits_set (d ∷ ds) (b ∷ f) zero y h m = (m, h.1)
fits_set (d ∷ ds) (b ∷ f) (suc p) y h m = (h.0, fits_set ds f p y h.1 m)

pub wrong_set : (ds : List Demand) (f : List ℕ) (p y : ℕ) → Fits ds f → p < length f → meets (get_or ds p any) y ≡ false → first_wrong ds (set f p y) ≡ p
unfolding Fits first_wrong
wrong_set [] [] p y h l m = absurd (not-suc-le-zero l)
wrong_set [] (b ∷ f) p y h l m = absurd h
wrong_set (d ∷ ds) [] p y h l m = absurd h
wrong_set (d ∷ ds) (b ∷ f) zero y h l m = rw m
wrong_set (d ∷ ds) (b ∷ f) (suc p) y h l m = rw h.0 (ap suc (wrong_set ds f p y h.1 (le_of_suc-le-suc l) m))

-- ---- bytes missing, bytes left over
pub wrong_take : (ds : List Demand) (f : List ℕ) (k : ℕ) → Fits ds f → k < length f → first_wrong ds (take k f) ≡ k
unfolding Fits first_wrong
wrong_take [] [] k h l = absurd (not-suc-le-zero l)
wrong_take [] (b ∷ f) k h l = absurd h
wrong_take (d ∷ ds) [] k h l = absurd h
wrong_take (d ∷ ds) (b ∷ f) zero h l = refl
wrong_take (d ∷ ds) (b ∷ f) (suc k) h l = rw h.0 (ap suc (wrong_take ds f k h.1 (le_of_suc-le-suc l)))

pub wrong_more : (ds : List Demand) (f e : List ℕ) → Fits ds f → first_wrong ds (f ++ e) ≡ length f
unfolding Fits first_wrong
wrong_more [] [] e h = refl
wrong_more [] (b ∷ f) e h = absurd h
wrong_more (d ∷ ds) [] e h = absurd h
wrong_more (d ∷ ds) (b ∷ f) e h = rw h.0 (ap suc (wrong_more ds f e h.1))

-- ---- demands that are holes
pub all_holes : (n r : ℕ) → get_or (holes n) r any ≡ any
all_holes zero r = refl
all_holes (suc n) zero = refl
all_holes (suc n) (suc r) = all_holes n r

pub holes_both : (a b : List Demand) → ((r : ℕ) → get_or a r any ≡ any) → ((r : ℕ) → get_or b r any ≡ any) → (r : ℕ) → get_or (a ++ b) r any ≡ any
holes_both [] b h k r = k r
holes_both (d ∷ a) b h k zero = h zero
holes_both (d ∷ a) b h k (suc r) = holes_both a b (λ (i : ℕ). h (suc i)) k r

pub flat_holes : (n : ℕ) (p : ℕ → List Demand) → ((i r : ℕ) → get_or (p i) r any ≡ any) → (r : ℕ) → get_or (flat n p) r any ≡ any
unfolding flat
flat_holes zero p h r = refl
flat_holes (suc n) p h r = holes_both (flat n p) (p n) (flat_holes n p h) (h n) r

-- Laws of `tab` and `over`: what a list is once its front, or a part of it, is overwritten, one store a turn.
use Prim.Native.Nat.{ℕ, zero, suc, ◌+◌, ◌-◌, ◌≤◌, ◌<◌}
use mathlib.Core.Path.{◌≡◌, refl, sym, ap, ap₂, ◌∙◌, subst}
use mathlib.Core.List.{List, [], ◌∷◌, ◌++◌, append_assoc}
use mathlib.Core.Logic.{⊎_elim}
use native.Mathlib.Numerals.{add-one}
use native.Mathlib.Nat.{zero-add, add-zero, add-suc, suc-add, not-suc-le-zero, eq-or-lt_of_le, le_of_suc-le-suc, lt-suc_self}
use native.Mathlib.Omega.{arith}
use lib.ListN.{length, get_or, take, drop, set, length-append, length-drop, take-append-drop, get_or-append}
use lib.Seq.{drop-cons, set_at, drop-drop, take_at, take-append-le, get_or_at, length-take-le, take-take, get_or-take, get_or-drop}
use lib.Seq.{take-suc, take-length, drop-append-add, get_or-append-add}
use Rattle.lists.specs.Lists.{tab, over}

module _ {A : Type 0} where
  -- below the length, what is read past the end does not matter
  pub get_d_any : (l : List A) (i : ℕ) (d e : A) → i < length l → get_or l i d ≡ get_or l i e
  get_d_any [] i d e h = absurd (not-suc-le-zero h)
  get_d_any (x ∷ l) zero d e h = refl
  get_d_any (x ∷ l) (suc i) d e h = get_d_any l i d e (le_of_suc-le-suc h)

  pub length_tab : (n : ℕ) (f : ℕ → A) → length (tab n f) ≡ n
  unfolding tab
  length_tab zero f = refl
  length_tab (suc n) f = rw (length-append, length_tab n f) (add-one n)

  pub tab_more : (n : ℕ) (f : ℕ → A) → tab (n + 1) f ≡ tab n f ++ (f n ∷ [])
  unfolding tab
  tab_more n f = rw add-one

  pub get_or_tab : (n : ℕ) (f : ℕ → A) (i : ℕ) (d : A) → i < n → get_or (tab n f) i d ≡ f i
  unfolding tab
  get_or_tab zero f i d h = absurd (not-suc-le-zero h)
  get_or_tab (suc n) f i d h =
      ⊎_elim
      (λ (e : i ≡ n). rw e (get_or_at (tab n f) (f n) [] d n (length_tab n f)))
      (λ (l : i < n). let l' : i < length (tab n f) = rw length_tab l in get_or-append (tab n f) _ d i l' ∙ get_or_tab n f i d l)
      (eq-or-lt_of_le (le_of_suc-le-suc h))

  -- where two rules agree
  pub tab_same : (n : ℕ) (f g : ℕ → A) → ((k : ℕ) → k < n → f k ≡ g k) → tab n f ≡ tab n g
  unfolding tab
  tab_same zero f g h = refl
  tab_same (suc n) f g h = rw (tab_same n f g (λ k l. h k (omega arith)), h n (lt-suc_self n))

  -- a list by the rule of its own places
  tab_front : (l : List A) (d : A) (n : ℕ) → n ≤ length l → tab n (λ (i : ℕ). get_or l i d) ≡ take n l
  unfolding tab
  tab_front l d zero h = refl
  tab_front l d (suc n) h = rw (tab_front l d n (omega arith)) (sym (take-suc l n d h))

  pub tab_own : (l : List A) (d : A) → tab (length l) (λ (i : ℕ). get_or l i d) ≡ l
  tab_own l d = tab_front l d (length l) (omega arith) ∙ take-length l

  pub over_none : (i : ℕ) (l : List A) → over i [] l ≡ l
  unfolding over
  over_none i l = rw (add-zero, take-append-drop)

  pub length_over : (i : ℕ) (p l : List A) → i + length p ≤ length l → length (over i p l) ≡ length l
  unfolding over
  length_over i p l h = simp (length-append, length-take-le i l (omega arith), length-drop) (omega arith)

  -- one more element is stored right after p
  pub over_more : (i : ℕ) (p l : List A) (x : A) (n : ℕ) → n ≡ i + length p → n < length l → set (over i p l) n x ≡ over i (p ++ (x ∷ [])) l
  unfolding over
  over_more i p l x n e h =
      let lt : i + length p < length l = omega arith in
      let d = drop-cons l (i + length p) x lt in
      let long : length (take i l ++ p) ≡ n = length-append (take i l) p ∙ ap (λ (m : ℕ). m + length p) (length-take-le i l (omega arith)) ∙ sym e in
      let len : i + length (p ++ (x ∷ [])) ≡ suc (i + length p) = simp length-append (omega arith) in
      rw (len, d, ← append_assoc (take i l) p _, set_at _ _ _ x n long) (simp append_assoc)

  -- what is read of a list whose front is overwritten: within the front, and right past it
  pub front_at : (n : ℕ) (f : ℕ → A) (l : List A) (i : ℕ) (d : A) → i < n → get_or (over 0 (tab n f) l) i d ≡ f i
  unfolding over
  front_at n f l i d h = get_or-append (tab n f) _ d i (rw length_tab h) ∙ get_or_tab n f i d h

  pub past_front : (p l : List A) (n : ℕ) (d : A) → length p ≡ n → get_or (over 0 p l) n d ≡ get_or l n d
  unfolding over
  past_front p l n d e =
      subst (λ (m : ℕ). get_or (p ++ drop (0 + length p) l) m d ≡ get_or l m d) (add-zero (length p) ∙ e)
      (rw zero-add (get_or-append-add p (drop (length p) l) 0 d ∙ get_or-drop (length p) l 0 d))

  -- what lies below i is as it was
  pub take_over : (n i : ℕ) (p l : List A) → n ≤ i → i ≤ length l → take n (over i p l) ≡ take n l
  unfolding over
  take_over n i p l h k =
      let b : n ≤ length (take i l) = rw (length-take-le i l k) h in
      take-append-le n (take i l) _ b ∙ take-take n i l h

  pub part_at : (a n : ℕ) (l : List A) (k : ℕ) (d : A) → k < n → get_or (take n (drop a l)) k d ≡ get_or l (a + k) d
  part_at a n l k d h = get_or-take n (drop a l) k d h ∙ get_or-drop a l k d

  -- a loop that stores f j at i + j, one store a turn: cur is the list so far
  pub over_tab_more : (i j n : ℕ) (f : ℕ → A) (l cur : List A) (x : A) → cur ≡ over i (tab j f) l → n ≡ i + j → n < length l → x ≡ f j
      → set cur n x ≡ over i (tab (j + 1) f) l
  over_tab_more i j n f l cur x e hn h v =
      rw (e, over_more i (tab j f) l x n (simp length_tab hn) h, v, tab_more)

  pub over_tab_none : (i : ℕ) (f : ℕ → A) (l : List A) → l ≡ over i (tab 0 f) l
  unfolding tab
  over_tab_none i f l = sym (over_none i l)

  pub length_part : (a n : ℕ) (l : List A) → a + n ≤ length l → length (take n (drop a l)) ≡ n
  length_part a n l h = length-take-le n (drop a l) (simp length-drop (omega arith))

  -- q is laid right after p
  pub over_next : (i j : ℕ) (p q l cur : List A) → cur ≡ over i p l → j ≡ i + length p → j + length q ≤ length l
      → over j q cur ≡ over i (p ++ q) l
  unfolding over
  over_next i j p q l cur e h room =
      let rest = drop (i + length p) l in
      let front : length (take i l ++ p) ≡ j = length-append (take i l) p ∙ (let t = length-take-le i l (omega arith) in omega arith) in
      let a : take i l ++ (p ++ rest) ≡ (take i l ++ p) ++ rest = sym (append_assoc (take i l) p rest) in
      let t : take j ((take i l ++ p) ++ rest) ≡ take i l ++ p = take_at (take i l ++ p) _ j front in
      let n : length (take i l ++ p) + length q ≡ j + length q = ap (λ (k : ℕ). k + length q) front in
      let m : i + length p + length q ≡ i + length (p ++ q) = rw length-append (omega arith) in
      let d : drop (j + length q) ((take i l ++ p) ++ rest) ≡ drop (i + length (p ++ q)) l
      = sym (ap (λ (k : ℕ). drop k ((take i l ++ p) ++ rest)) n) ∙ drop-append-add (take i l ++ p) rest (length q)
      ∙ drop-drop (length q) (i + length p) l ∙ ap (λ (k : ℕ). drop k l) m in
      ap (λ (c : List A). take j c ++ (q ++ drop (j + length q) c)) (e ∙ a) ∙ ap₂ (λ (x y : List A). x ++ (q ++ y)) t d
      ∙ append_assoc (take i l) p _ ∙ ap (λ (z : List A). take i l ++ z) (sym (append_assoc p q _))

  pub over_over : (i : ℕ) (p q l : List A) → i ≡ length p → i + length q ≤ length l → over i q (over 0 p l) ≡ over 0 (p ++ q) l
  over_over i p q l e h = over_next 0 i p q l (over 0 p l) refl (omega arith) h

  -- what is laid over a shorter front hides it
  pub over_absorb : (p q l : List A) → length q ≤ length p → over 0 p (over 0 q l) ≡ over 0 p l
  unfolding over
  over_absorb p q l h =
      let m : length q + (length p - length q) ≡ length p = omega arith in
      let d : drop (length p) (q ++ drop (length q) l) ≡ drop (length p) l
      = rw (← m) (drop-append-add q (drop (length q) l) (length p - length q) ∙ drop-drop (length p - length q) (length q) l) in
      rw (zero-add, zero-add, d)

  pub over_again : (p l cur : List A) → cur ≡ over 0 p l → cur ≡ over 0 p cur
  over_again p l cur e = rw e (sym (over_absorb p p l (omega arith)))

  pub over_settled : (p q l mid cur : List A) → cur ≡ over 0 p mid → mid ≡ over 0 q l → length q ≤ length p → cur ≡ over 0 p l
  over_settled p q l mid cur e d h = e ∙ ap (over 0 p) d ∙ over_absorb p q l h

  -- one more element is stored right before p
  pub over_before : (n : ℕ) (p l : List A) (x : A) → n < length l → set (over (n + 1) p l) n x ≡ over n (x ∷ p) l
  unfolding over
  over_before n p l x h =
      let t : take (suc n) l ≡ take n l ++ (get_or l n x ∷ []) = take-suc l n x h in
      let len : length (take n l) ≡ n = length-take-le n l (omega arith) in
      let m : n + length (x ∷ p) ≡ suc n + length p = simp (add-suc, suc-add) in
      rw (m, add-one, t, append_assoc (take n l) _ _, set_at (take n l) _ _ x n len)

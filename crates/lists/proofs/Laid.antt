-- A loop that lays f 0, f 1, .. over a list from place i on, one store a turn: what it knows at turn j.
use Prim.Native.Nat.{ℕ, ◌+◌, ◌≤◌, ◌<◌}
use native.Mathlib.Omega.{arith}
use mathlib.Core.Path.{◌≡◌, refl, ap, ◌∙◌}
use mathlib.Core.List.{List}
use lib.ListN.{length, set, take, length-set}
use lib.Seq.{take_at, get_or-take, length-take-le}
use Rattle.lists.specs.Lists.{tab, over}
use Rattle.lists.specs.inner.Holds.{Holds}
use Rattle.lists.proofs.Over.{length_tab, over_tab_more, over_tab_none, front_at}

module _ {A : Type 0} (n i : ℕ) (f : ℕ → A) (l : List A) where
  -- cur is the list so far, of the n places to come j are laid
  pub record Laid (cur : List A) (j : ℕ) : Type 0 where
    pub within : j ≤ n
    pub kept : length cur ≡ length l
    pub is : cur ≡ over i (tab j f) l

  pub laid_none : Laid l 0
  laid_none = record { within = omega arith; kept = refl; is = over_tab_none i f l }

  -- x is stored next
  pub laid_more : (cur : List A) (j p : ℕ) (x : A) → Laid cur j → j < n → i + n ≤ length l → p ≡ i + j → x ≡ f j
      → Laid (set cur p x) (j + 1)
  laid_more cur j p x inv h room e v =
      record {
        within = omega arith;
        kept = length-set cur p x ∙ inv.kept;
        is = over_tab_more i j p f l cur x inv.is e (omega arith) v;
      }

  pub laid_done : (cur : List A) (j : ℕ) → Laid cur j → n ≤ j → cur ≡ over i (tab n f) l
  laid_done cur j inv h = let e : j ≡ n = omega arith in inv.is ∙ ap (λ (k : ℕ). over i (tab k f) l) e

-- what n stores at the front leave there
module _ {A : Type 0} (n : ℕ) (f : ℕ → A) (l cur : List A) (e : cur ≡ over 0 (tab n f) l) where
  pub front : take n cur ≡ tab n f
  unfolding over
  front = rw e (take_at (tab n f) _ n (length_tab n f))

-- n stores at the front of an array, and what is read of them; d is what is read past its end
module _ {A : Type 0} {d : A} (n : ℕ) (f : ℕ → A) where
  pub laid_holds : (l cur : List A) (j : ℕ) → Laid n 0 f l cur j → n ≤ length l → n ≤ j → Holds d n f cur
  laid_holds l cur j inv room h =
      record {
        room = omega (arith, inv.kept);
        is = λ k b. rw (laid_done n 0 f l cur j inv h) (front_at n f l k d b);
      }

  -- of the front alone
  pub holds_front : (xs : List A) → Holds d n f xs → Holds d n f (take n xs)
  holds_front xs h =
      record {
        room = rw (length-take-le n xs h.room) (omega arith);
        is = λ k b. get_or-take n xs k d b ∙ h.is k b;
      }

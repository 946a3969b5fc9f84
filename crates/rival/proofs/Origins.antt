-- The origin of each state, row by row, is the state that the best path to it has at the sample that is asked for.
use Prim.Native.Nat.{ℕ, zero, suc, ◌-◌, ◌≤◌, ◌<◌}
use mathlib.Core.Path.{◌≡◌, sym, ap, ◌∙◌}
use mathlib.Core.Logic.{⊎_elim}
use mathlib.Core.List.{List}
use native.Mathlib.Nat.{le_of_suc-le-suc, eq-or-lt_of_le}
use native.Mathlib.Numerals.{sub-one}
use native.Mathlib.Omega.{arith}
use lib.ListN.{get_or}
use Rattle.lists.specs.Lists.{tab, over}
use Rattle.lists.proofs.Over.{front_at}
use Rattle.model.specs.Model.{Model}
use Rattle.best_path.specs.Walk.{path_to, from, last_state, best_path}
use Rattle.best_path.specs.Score.{state_at}
use Rattle.best_path.specs.inner.Row.{first_from}
use Rattle.best_path.proofs.Paths.{path_end, path_before}
use Rattle.best_path.proofs.States.{from_state, last_below_lem}
use Rattle.best_path.proofs.Steps.{path_of}
use Rattle.rival.specs.inner.Origins.{Originated, Origins}

-- ---- what is laid: each state is its own origin, or has its predecessor's
module _ (states t index : ℕ) (from before was is : List ℕ) where
  pub own_laid : t ≡ index → is ≡ over 0 (first_from states) was → Originated states t index from before is
  own_laid e laid =
      record {
        own = λ _ (j : ℕ) h. ap (λ (l : List ℕ). get_or l j 0) laid ∙ front_at states _ was j 0 h;
        followed = λ l (j : ℕ) h. absurd (omega arith);
      }

  pub followed_laid : index < t → is ≡ over 0 (tab states (λ (j : ℕ). get_or before (get_or from j 0) 0)) was
      → Originated states t index from before is
  followed_laid l laid =
      record {
        own = λ e (j : ℕ) h. absurd (omega arith);
        followed = λ _ (j : ℕ) h. ap (λ (q : List ℕ). get_or q j 0) laid ∙ front_at states _ was j 0 h;
      }

module _ (m : Model) (index : ℕ) where
  own_origins : (t : ℕ) (f before origins : List ℕ) → Originated m.states t index f before origins → index ≡ t
      → (j : ℕ) → j < m.states → get_or origins j 0 ≡ state_at (path_to (from m) t j) index
  own_origins t f before origins o e j s = o.own (sym e) j s ∙ sym (ap (state_at (path_to (from m) t j)) e ∙ path_end (from m) t j)

  -- row t has these predecessors, and the origins of the row before it are these
  pub origins_laid : (t : ℕ) (f before origins : List ℕ) → 0 < m.states → Originated m.states t index f before origins
      → ((j : ℕ) → j < m.states → get_or f j 0 ≡ from m t j) → (0 < t → Origins m index (t - 1) before) → Origins m index t origins
  origins_laid zero f before origins some o is h l j s = own_origins zero f before origins o (omega arith) j s
  origins_laid (suc t) f before origins some o is h l j s =
      ⊎_elim
      (λ (e : index ≡ suc t). own_origins (suc t) f before origins o e j s)
      (λ (i : index < suc t).
      let u : index ≤ t = le_of_suc-le-suc i in
      let k = rw (sub-one (suc t)) at (h (omega arith)) in
      o.followed i j s
      ∙ ap (λ (x : ℕ). get_or before x 0) (is j s)
      ∙ k u (from m (suc t) j) (from_state m some (suc t) j s)
      ∙ sym (path_before (from m) t j index u))
      (eq-or-lt_of_le l)

  -- and of n samples the state that is asked for is the last state's origin
  pub origin_found : (n : ℕ) (origins : List ℕ) → 0 < m.states → index < n → Origins m index (n - 1) origins
      → (j : ℕ) → j ≡ last_state m (n - 1) → get_or origins j 0 ≡ state_at (best_path m n) index
  origin_found n origins some h o j e =
      let s : j < m.states = rw e (last_below_lem m some (n - 1)) in
      o (omega arith) j s
      ∙ ap (λ (k : ℕ). state_at (path_to (from m) (n - 1) k) index) e
      ∙ ap (λ (p : List ℕ). state_at p index) (sym (path_of m n (omega arith)))

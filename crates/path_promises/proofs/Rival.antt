-- What a call of `rival` tells is the strongest rival, and it is refused with 15 exactly when there is none.
use Prim.Native.Nat.{ℕ, suc, ◌-◌, ◌≤◌, ◌<◌}
use mathlib.Core.Path.{◌≡◌, refl, sym, ap, subst, ◌∙◌}
use mathlib.Core.Bool.{Bool, true, false, true≢false, cond}
use mathlib.Core.List.{List}
use native.Mathlib.Omega.{arith}
use borrow.Author.Tests.{ltb-true, lt-ltb, not-false}
use lib.Dec as Dec
use lib.ListN.{length, take}
use lib.Ieee.{Float, le}
use Rattle.floats.specs.Float.{minus_infinity, is_minus_infinity}
use Rattle.floats.proofs.Finite.{minus_infinity_is}
use Rattle.lists.specs.Lists.{after}
use Rattle.answer.specs.Answer.{done, is_done, refuse, answered}
use Rattle.answer.specs.Checks.{first_of}
use Rattle.answer.specs.declared.Answer.{Answer}
use Rattle.answer.specs.declared.Refusal.TheVariants.{NoRival}
use Rattle.answer.proofs.Checks.{Clear, clear, no_fault, clear_left, clear_right, goes_on, refuse_both}
use Rattle.model.specs.Lent.{Lent, T}
use Rattle.model.specs.Model.{Model, model_of}
use Rattle.model.specs.Accepted.{Accepted}
use Rattle.model.proofs.Low.{Low, accepted_low}
use Rattle.checks.specs.Rooms.{Roomy}
use Rattle.checks.specs.Checks.{tests_of, passage}
use Rattle.checks.specs.LetThrough.{LetThrough}
use Rattle.checks.specs.Exactly.{Refused}
use Rattle.checks.proofs.Done.{passage_refuses, let_through, is_let_through}
use Rattle.best_path.specs.Walk.{best_path, best_value}
use Rattle.best_path.specs.Score.{state_at}
use Rattle.best_path.proofs.BestPath.{states_length, states_below}
use Rattle.rival.specs.declared.Rivalry.{Rivalry}
use Rattle.rival.specs.Call.{Asked, asked, Outputs, chosen, without, rival_value, rival_tests, rooms, checked, Told}
use Rattle.rival_laws.proofs.Rival.{rival_avoids, rival_scored, rival_highest, rival_below, none_all, all_none, rival_ties, rival_last}
use Rattle.path_promises.specs.BestPath.{IsPath}
use Rattle.path_promises.specs.Calls.{Defined}
use Rattle.path_promises.specs.Rival.{Done, Strongest, TiesAsViterbi, RivalIsStrongest, NoneThere, NoRivalExactly, Beside, RivalTellsTheBest}
use Rattle.path_promises.proofs.BestPath.{gives_the_best}
use Rattle.checks.proofs.Left.{checks_done, front_is}

-- ---- what passed checks say
module _ (q : Asked) (o : Outputs) where
  all_clear : is_done (checked q o) ≡ true → Clear (tests_of q.lent.tables (passage false (rooms q o) q.lent)) × Clear (rival_tests q)
  all_clear h =
      let ts = tests_of q.lent.tables (passage false (rooms q o) q.lent) in
      let c = clear _ (refuse_both ts (rival_tests q) (passage_refuses false (rooms q o) q.lent) (tt, (tt, tt))) h in
      (clear_left ts (rival_tests q) c, clear_right ts (rival_tests q) c)

  pub passed : is_done (checked q o) ≡ true → LetThrough false (rooms q o) q.lent
  passed h = let_through false (rooms q o) q.lent (no_fault _ (all_clear h).0)

  within : is_done (checked q o) ≡ true → q.index < T q.lent
  unfolding Clear
  within h = ltb-true _ _ (not-false _ (all_clear h).1.0)

  finite : is_done (checked q o) ≡ true → is_minus_infinity (rival_value q) ≡ false
  unfolding Clear
  finite h = (all_clear h).1.1.0

-- ---- a sample that is asked for, of what is accepted
module _ (q : Asked) (a : Accepted q.lent) (inside : q.index < T q.lent) where
  -- the time of the last sample
  abbrev n : ℕ
  n = T q.lent - 1

  abbrev m : Model
  m = model_of q.lent

  long : T q.lent ≡ suc n
  long = omega (arith, inside)

  before_last : q.index ≤ n
  before_last = omega (arith, inside)

  some : 0 < m.states
  some = a.tables.in_range.some_state

  low : Low m (suc n)
  low = rw long at (accepted_low q.lent a)

  value_is_lem : rival_value q ≡ best_value (without q) (suc n)
  value_is_lem = ap (best_value (without q)) long

  path_is_lem : best_path (without q) (T q.lent) ≡ best_path (without q) (suc n)
  path_is_lem = ap (best_path (without q)) long

  path_below : (other : List ℕ) → IsPath q.lent other → (t : ℕ) → t ≤ n → state_at other t < m.states
  path_below other p t i = p.states t (omega (arith, long))

  rival_is_path : IsPath q.lent (best_path (without q) (T q.lent))
  rival_is_path =
      record {
        long = ap length path_is_lem ∙ states_length n (without q) ∙ sym long;
        states = λ (t : ℕ) i. rw path_is_lem (states_below n (without q) some t (omega (arith, long)));
      }

  strongest : (r : Rivalry) (path : List ℕ) → r.chosen ≡ chosen q → r.answer.value ≡ rival_value q → r.best ≡ best_value m (T q.lent)
      → path ≡ best_path m (T q.lent) → is_minus_infinity (rival_value q) ≡ false → Strongest q r path (best_path (without q) (T q.lent))
  strongest r path c v b p f =
      let f' : is_minus_infinity (best_value (without q) (suc n)) ≡ false = sym (ap is_minus_infinity value_is_lem) ∙ f in
      record {
        chosen_there = c ∙ ap (λ (x : List ℕ). state_at x q.index) (sym p);
        is_other = record { is_path = rival_is_path; differs = rw (c, path_is_lem) (rival_avoids n m some low q.index (chosen q) before_last f') };
        scored = v ∙ value_is_lem ∙ rival_scored n m some low q.index (chosen q) before_last f' ∙ sym (rw path_is_lem);
        above = ap is_minus_infinity v ∙ f;
        highest = λ (other : List ℕ) x.
            rw (v, value_is_lem)
            (rival_highest n m some low q.index (chosen q) before_last (state_at other) (path_below other x.is_path) (rw c at x.differs));
        at_most_best =
            rw (v, b, value_is_lem)
            (subst (λ (t : ℕ). Dec.T (le (best_value (without q) (suc n)) (best_value m t))) (sym long)
            (rival_below n m some low q.index (chosen q) before_last));
      }

  ties : is_minus_infinity (rival_value q) ≡ false → TiesAsViterbi q (best_path (without q) (T q.lent))
  ties f =
      let f' : is_minus_infinity (best_value (without q) (suc n)) ≡ false = sym (ap is_minus_infinity value_is_lem) ∙ f in
      record {
        before = λ (t : ℕ) i. rw path_is_lem (rival_ties n m some low q.index (chosen q) before_last f' t (omega (arith, long)));
        at_the_end = λ (t : ℕ) e.
            let z : t ≡ n = omega (arith, long) in
            rw (z, path_is_lem) (rival_last n m some low q.index (chosen q) before_last f');
      }

  none_told : is_minus_infinity (rival_value q) ≡ true → NoneThere q
  none_told h other x =
      let e : best_value (without q) (suc n) ≡ minus_infinity = sym value_is_lem ∙ minus_infinity_is (rival_value q) (subst Dec.T (sym h) tt) in
      none_all n m some low q.index (chosen q) before_last e (state_at other) (path_below other x.is_path) x.differs

  told_none : NoneThere q → is_minus_infinity (rival_value q) ≡ true
  told_none h =
      ap is_minus_infinity value_is_lem
      ∙ all_none n m some low q.index (chosen q) before_last (λ off.
      rw path_is_lem at (h (best_path (without q) (T q.lent)) (record { is_path = rival_is_path; differs = rw path_is_lem off })))

-- ---- what a done call told
module _ (q : Asked) (r : Rivalry) (path rival_path : List ℕ) (d : Done q r path rival_path) where
  abbrev l : Lent
  l = q.lent

  is_checked : (is_done (checked q d.lent) ≡ true) × (r.answer ≡ done (rival_value q))
  is_checked =
      checks_done (checked q d.lent) (done (rival_value q)) r.answer (ap (λ (x : Rivalry). x.answer) d.promised.told) d.done

  accepted : Accepted l
  accepted = (passed q d.lent is_checked.0).accepted

  inside : q.index < T l
  inside = within q d.lent is_checked.0

  -- a path of T states, in the front of an output
  front : (b : Model) (was is : List ℕ) → is ≡ after (is_done (checked q d.lent)) (best_path b (T l)) was → take (T l) is ≡ best_path b (T l)
  front b was is e =
      let z : T l ≡ suc (T l - 1) = omega (arith, inside) in
      let k : length (best_path b (T l)) ≡ T l = rw z (states_length (T l - 1) b) in
      front_is (is_done (checked q d.lent)) (best_path b (T l)) was is (T l) e is_checked.0 k

  path_told : path ≡ best_path (model_of l) (T l)
  path_told = d.path_is ∙ front (model_of l) d.lent.path d.left.path d.promised.path

  rival_told : rival_path ≡ best_path (without q) (T l)
  rival_told = d.rival_is ∙ front (without q) d.lent.rival_path d.left.rival_path d.promised.rival_path

  chosen_told : r.chosen ≡ chosen q
  chosen_told = ap (λ (x : Rivalry). x.chosen) d.promised.told ∙ ap (λ (b : Bool). cond b (chosen q) 0) is_checked.0

  best_told : r.best ≡ best_value (model_of l) (T l)
  best_told =
      ap (λ (x : Rivalry). x.best) d.promised.told
      ∙ ap (λ (b : Bool). cond b (best_value (model_of l) (T l)) minus_infinity) is_checked.0

  is_strongest : Strongest q r path rival_path
  is_strongest =
      subst (Strongest q r path) (sym rival_told)
      (strongest q accepted inside r path chosen_told (ap (λ (x : Answer). x.value) is_checked.1) best_told path_told
      (finite q d.lent is_checked.0))

  has_ties : TiesAsViterbi q rival_path
  has_ties = subst (TiesAsViterbi q) (sym rival_told) (ties q accepted inside (finite q d.lent is_checked.0))

pub rival_is_strongest : RivalIsStrongest
rival_is_strongest q r path rival_path d = (is_strongest q r path rival_path d, has_ties q r path rival_path d)

pub beside : (l : Lent) (value : Float) (path : List ℕ) → Beside l value path → Defined l value path
beside l value path b =
    let q = asked l b.index in
    record {
      accepted = accepted q b.rivalry path b.rival_path b.done;
      some_sample = omega (arith, inside q b.rivalry path b.rival_path b.done);
      value_is = b.value_is ∙ best_told q b.rivalry path b.rival_path b.done;
      path_is = path_told q b.rivalry path b.rival_path b.done;
    }

pub rival_tells_the_best : RivalTellsTheBest
rival_tells_the_best = gives_the_best Beside beside

-- ---- 15
module _ (q : Asked) (o e : Outputs) (r : Rivalry) (a : Accepted q.lent) (room : Roomy (rooms q o)) (inside : q.index < T q.lent)
    (p : Told q o r e) where
  -- the checks 1 to 8 are passed, and 16 is not given
  late : checked q o ≡ first_of (rival_tests q)
  late =
      let ts = tests_of q.lent.tables (passage false (rooms q o) q.lent) in
      let h = is_let_through false (rooms q o) q.lent (record { accepted = a; roomy = room; sampled = λ z. absurd z }) in
      sym (goes_on ts (rival_tests q) _ refl (clear ts (passage_refuses false (rooms q o) q.lent) h))

  answer_is_lem : r.answer ≡ cond (is_minus_infinity (rival_value q)) (refuse NoRival 0 0) (done (rival_value q))
  unfolding first_of
  answer_is_lem = ap (λ (x : Rivalry). x.answer) p.told ∙ rw late (go (is_minus_infinity (rival_value q)) refl)
    where
      go : (b : Bool) → is_minus_infinity (rival_value q) ≡ b
          → answered (first_of (rival_tests q)) (rival_value q) ≡ cond b (refuse NoRival 0 0) (done (rival_value q))
      go true h = rw (lt-ltb _ _ inside, h)
      go false h = rw (lt-ltb _ _ inside, h)

  is_given : NoneThere q → Refused r.answer 15 0 0
  is_given h =
      let z = answer_is_lem ∙ ap (λ (b : Bool). cond b (refuse NoRival 0 0) (done (rival_value q))) (told_none q a inside h) in
      rw z (record { number_is = refl; table_is = refl; place_is = refl; value_is = refl })

  is_only : is_done r.answer ≡ false → NoneThere q
  is_only h = none_told q a inside (go (is_minus_infinity (rival_value q)) (sym (ap is_done answer_is_lem) ∙ h))
    where
      go : (b : Bool) → is_done (cond b (refuse NoRival 0 0) (done (rival_value q))) ≡ false → b ≡ true
      go true k = refl
      go false k = absurd (true≢false k)

pub no_rival_exactly : NoRivalExactly
no_rival_exactly = record { given = is_given; only_then = is_only }

-- Laws of `best_of`: where a number ranks the candidates there is one winner, and it stays the winner when the others fall.
use Rattle.std.proofs.Common.{◌≡◌, ◌≤◌, ◌<◌, ℕ, zero, suc, Bool, cond, leb, refl, arith}
use Rattle.std.proofs.lemmas.Bool.Decides.{nat_tests}
use Rattle.best_path.specs.Best.{best_of}

-- the one of two that a test picks
picked : (t : Bool) (n b : ℕ) → (0 < n → b < n) → (n ≡ 0 → b ≡ 0) → cond t n b < suc n
picked t n b h z = grind arith

pub best_below : (r : ℕ → ℕ → Bool) (n : ℕ) → 0 < n → best_of r n < n
unfolding best_of
best_below r zero h = absurd (omega arith)
best_below r (suc n) h = picked (r (best_of r n) n) n (best_of r n) (best_below r n) (λ z. rw z)

-- it asks the rule below n only
pub best_same : (r q : ℕ → ℕ → Bool) (n : ℕ) → ((b k : ℕ) → b < n → k < n → r b k ≡ q b k) → best_of r n ≡ best_of q n
unfolding best_of
best_same r q zero e = refl
best_same r q (suc zero) e = rw (e 0 0 (omega arith) (omega arith))
best_same r q (suc (suc n)) e =
    let i = best_same r q (suc n) (λ (b k : ℕ) h l. e b k (omega arith) (omega arith)) in
    let j = best_below q (suc n) (omega arith) in
    rw (i, e (best_of q (suc n)) (suc n) (omega arith) (omega arith))

-- of 0, .., n - 1, w ranks highest, and what is numbered above it ranks below it
pub record Wins (ρ : ℕ → ℕ) (n w : ℕ) : Type 0 where
  pub below : w < n
  pub top : (b : ℕ) → b < n → ρ b ≤ ρ w
  pub last : (b : ℕ) → w < b → b < n → ρ b < ρ w

module _ (ρ : ℕ → ℕ) where
  none_wins : (w : ℕ) → w ≡ 0 → Wins ρ 1 w
  none_wins w e = record { below = omega arith; top = λ (b : ℕ) k. grind arith; last = λ (b : ℕ) j k. grind arith }

  more : (n w : ℕ) (t : Bool) → t ≡ leb (ρ w) (ρ n) → Wins ρ n w → Wins ρ (suc n) (cond t n w)
  more n w t e h =
      record {
        below = grind (arith, h.below);
        top = λ (b : ℕ) k. grind (arith, nat_tests, h.top b);
        last = λ (b : ℕ) j k. grind (arith, nat_tests, h.top b, h.last b);
      }

  -- no other wins
  pub one_wins : (n w v : ℕ) → Wins ρ n w → Wins ρ n v → w ≡ v
  one_wins n w v h k = grind (arith, h.below, k.below, h.top v, k.top w, h.last v, k.last w)

-- a number ranks the candidates below n; nothing is known of the others
module _ (r : ℕ → ℕ → Bool) (ρ : ℕ → ℕ) where
  pub winner : (n : ℕ) → ((b k : ℕ) → b < n → k < n → r b k ≡ leb (ρ b) (ρ k)) → 0 < n → Wins ρ n (best_of r n)
  unfolding best_of
  winner zero is h = absurd (omega arith)
  winner (suc zero) is h = none_wins ρ _ (grind arith)
  winner (suc (suc n)) is h =
      let below = best_below r (suc n) (omega arith) in
      more ρ (suc n) _ _ (is _ _ (omega arith) (omega arith)) (winner (suc n) (λ (b k : ℕ) i l. is b k (omega arith) (omega arith)) (omega arith))

  pub winner_is : (n : ℕ) → ((b k : ℕ) → b < n → k < n → r b k ≡ leb (ρ b) (ρ k)) → (w : ℕ) → Wins ρ n w → w ≡ best_of r n
  winner_is n is w h = one_wins ρ n w (best_of r n) h (winner n is (omega (arith, h.below)))

-- the winner keeps its rank and the others fall, if they move: it wins
pub still_wins : (ρ σ : ℕ → ℕ) (n w : ℕ) → σ w ≡ ρ w → ((b : ℕ) → b < n → σ b ≤ ρ b) → Wins ρ n w → Wins σ n w
still_wins ρ σ n w e f h =
    record {
      below = h.below;
      top = λ (b : ℕ) k. omega (arith, f b k, h.top b k);
      last = λ (b : ℕ) j k. omega (arith, f b k, h.last b j k);
    }

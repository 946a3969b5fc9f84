-- The thirty constants of exp and their rule (RULES 4.1): the first is the whole square root of 2^61, each next one that of the one before
-- it times 2^31. What stands before the first is 2^30, as 2^30·2^31 = 2^61.
use Rattle.std.specs.Prelude.{ℕ, ◌*◌, ◌+◌, ◌^◌, Bool, true, ◌&&◌, List, [], ◌∷◌, ◌≡◌, T, leb, ltb, length}

-- c is the whole square root of n
abbrev pub is_root : ℕ → ℕ → Bool
is_root c n = leb (c * c) n && ltb n ((c + 1) * (c + 1))

-- each entry is the whole square root of the one before it times 2^31, `before` standing before the first
abbrev pub chained : ℕ → List ℕ → Bool
chained before [] = true
chained before (c ∷ cs) = is_root c (before * 2 ^ 31) && chained c cs

-- the rule, over a whole table. One table alone keeps it
pub record Rule (cs : List ℕ) : Type 0 where
  pub thirty : length cs ≡ 30
  pub roots : T (chained (2 ^ 30) cs)

unfoldable pub constants : List ℕ
constants =
    1518500249
    ∷ 1805811300
    ∷ 1969251187
    ∷ 2056437386
    ∷ 2101467501
    ∷ 2124350982
    ∷ 2135885998
    ∷ 2141676972
    ∷ 2144578344
    ∷ 2146030504
    ∷ 2146756953
    ∷ 2147120269
    ∷ 2147301950
    ∷ 2147392797
    ∷ 2147438222
    ∷ 2147460934
    ∷ 2147472290
    ∷ 2147477968
    ∷ 2147480807
    ∷ 2147482227
    ∷ 2147482937
    ∷ 2147483292
    ∷ 2147483469
    ∷ 2147483558
    ∷ 2147483602
    ∷ 2147483624
    ∷ 2147483635
    ∷ 2147483641
    ∷ 2147483644
    ∷ 2147483645
    ∷ []

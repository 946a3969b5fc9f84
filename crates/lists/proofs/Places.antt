-- Places: their order, and those in a table by rows, where place j of s in row t of n is at t * s + j.
use Prim.Native.Nat.{ℕ, suc, ◌+◌, ◌*◌, ◌-◌, ◌≤◌, ◌<◌}
use mathlib.Core.Path.{◌≡◌}
use native.Mathlib.Numerals.{add-one}
use native.Mathlib.Nat.{mul-le-mul_right, suc-mul, le_of_suc-le-suc, lt_of_not-le}
use native.Mathlib.Omega.{arith}

pub at_most : (a b : ℕ) → (b < a → ⊥) → a ≤ b
at_most a b f = le_of_suc-le-suc (lt_of_not-le f)

-- row k of n rows, place j of s: the index is within the table
pub within_rows : {k n j s : ℕ} → k < n → j < s → k * s + j < n * s
within_rows {k} {n} {j} {s} h l = let m : suc k * s ≤ n * s = mul-le-mul_right s h in omega (arith, suc-mul k s)

-- two rows more than t are within n
pub rows_room : (t n s : ℕ) → t + 1 < n → t * s + s + s ≤ n * s
rows_room t n s h =
    let m : suc (suc t) * s ≤ n * s = mul-le-mul_right s (omega arith) in
    omega (arith, suc-mul (suc t) s, suc-mul t s)

pub row_room : (t n s : ℕ) → t < n → t * s + s ≤ n * s
row_room t n s h = let m : suc t * s ≤ n * s = mul-le-mul_right s h in omega (arith, suc-mul t s)

pub last_room : (n s v : ℕ) → 0 < n → n * s ≤ v → (n - 1) * s + s ≤ v
last_room n s v h k = let r = row_room (n - 1) n s (omega arith) in omega arith

-- where the next row starts
pub next_at : (t s at : ℕ) → at ≡ t * s → at + s ≡ (t + 1) * s
next_at t s at e = rw (add-one, suc-mul, e)

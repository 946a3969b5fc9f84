-- Lent buffers as their lengths: the places that each needs, and those that it has.
use Rattle.std.specs.Prelude.{ℕ, ◌≤◌, List, [], ◌∷◌}
use Rattle.checks.specs.declared.Room.{Room}

abbrev pub room : ℕ → ℕ → Room
room needed lent = record { needed = needed; lent = lent }

-- both as lists, in order
abbrev pub rooms_of : List ℕ → List ℕ → List Room
rooms_of [] lent = []
rooms_of (n ∷ needed) [] = []
rooms_of (n ∷ needed) (l ∷ lent) = room n l ∷ rooms_of needed lent

-- every buffer has the places that it needs
abbrev pub Roomy : List Room → Type 0
Roomy [] = Unit
Roomy (o ∷ os) = (o.needed ≤ o.lent) × Roomy os

-- The size of a tree, as the code counts it.
use Rattle.std.specs.Prelude.{ℕ, ◌+◌, ◌-◌, ◌^◌, min, max}
use Rattle.fx_model.specs.Tree.{Tree, Literal, Input, State, Temp, Negation, Sum, Difference, Product, Quotient}
use Rattle.fx_expr.specs.declared.size.Size.{Size}

-- a count past the greatest number of 32 bits is that number
abbrev pub size_counted : ℕ → ℕ
size_counted n = min n (2 ^ 32 - 1)

-- an operation on one operand
abbrev pub above_one : Size → Size
above_one a = record { nodes = size_counted (a.nodes + 1); height = size_counted (a.height + 1) }

-- an operation on two
abbrev pub above_two : Size → Size → Size
above_two a b = record {
  nodes = size_counted (size_counted (a.nodes + b.nodes) + 1);
  height = size_counted (max a.height b.height + 1);
}

-- of a tree: a use of a name adds no node
abbrev pub size_of : Tree → Size
size_of (Literal c) = record { nodes = 1; height = 1 }
size_of (Input k) = record { nodes = 0; height = 1 }
size_of (State k) = record { nodes = 0; height = 1 }
size_of (Temp k) = record { nodes = 0; height = 1 }
size_of (Negation a) = above_one (size_of a)
size_of (Sum a b) = above_two (size_of a) (size_of b)
size_of (Difference a b) = above_two (size_of a) (size_of b)
size_of (Product a b) = above_two (size_of a) (size_of b)
size_of (Quotient a b) = above_two (size_of a) (size_of b)

-- The sizes of letters.
use Rattle.fx_expr.specs.SizeOf.{size_of}
use Rattle.fx_model.specs.Rules.{Letters}
use Rattle.fx_rewrite.specs.declared.size.LetterSizes.{LetterSizes}

-- of each
abbrev pub sizes_of : Letters → LetterSizes
sizes_of s = record { a = size_of s.a; b = size_of s.b; c = size_of s.c }

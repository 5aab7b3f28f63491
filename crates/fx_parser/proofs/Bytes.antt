-- What bytes mean, whether they are UTF-8 or not.
use Rattle.std.proofs.Common.{◌≡◌, Bool, true, false, List, ℕ, Option, Err, refl}
use Rattle.std.specs.Str.{is_utf8, IsUtf8}
use Rattle.std.specs.Str.Lossy.{utf8_valid_len}
use Rattle.std.proofs.lemmas.Str.{IsUtf8-from_is_utf8, is_utf8-from_IsUtf8}
use Rattle.fx_lexer.specs.declared.fault.SourceKind.TheVariants.{BadUtf8}
use Rattle.fx_grammar.specs.Steps.{Text, fault}
use Rattle.fx_grammar.specs.Sources.{parsed}
use Rattle.fx_parser.specs.Choice.{wanted_in}

pub of_text : (bytes : List ℕ) (name : Option Text) → IsUtf8 bytes → parsed bytes name ≡ wanted_in bytes name
unfolding parsed
of_text bytes name u = rw (is_utf8-from_IsUtf8 bytes u) refl

pub of_no_text : (bytes : List ℕ) (name : Option Text) → (IsUtf8 bytes → ⊥) →
    parsed bytes name ≡ Err (fault (utf8_valid_len bytes) BadUtf8)
unfolding parsed
of_no_text bytes name lacks = by (is_utf8 bytes) refl where
  by : (b : Bool) → is_utf8 bytes ≡ b → parsed bytes name ≡ Err (fault (utf8_valid_len bytes) BadUtf8)
  by true e = absurd (lacks (IsUtf8-from_is_utf8 bytes e))
  by false e = rw e refl

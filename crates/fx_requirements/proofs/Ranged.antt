-- The two tests of the inputs' ranges, one behind the other.
use Rattle.std.proofs.Common.{◌≡◌, map, Ok, Err, refl}
use Rattle.fx_lexer.specs.declared.fault.SourceFault.{SourceFault}
use Rattle.fx_lexer.specs.declared.fault.SourceKind.TheVariants.{NoRange, EmptyRange}
use Rattle.fx_grammar.specs.Steps.{fault}
use Rattle.fx_grammar.specs.Ranges.{Subjects, is_lacking, is_empty_range, all_pass, declared_input, inputs_at}

pub in_range : (ss : Subjects) → all_pass is_lacking (λ at. fault at NoRange) ss ≡ Ok tt →
    all_pass is_empty_range (λ at. fault at EmptyRange) ss ≡ Ok tt → inputs_at ss ≡ Ok (map declared_input ss)
unfolding inputs_at
in_range ss p q = rw (p, q) refl

pub out_of_range : (ss : Subjects) (e : SourceFault) → all_pass is_lacking (λ at. fault at NoRange) ss ≡ Ok tt →
    all_pass is_empty_range (λ at. fault at EmptyRange) ss ≡ Err e → inputs_at ss ≡ Err e
unfolding inputs_at
out_of_range ss e p q = rw (p, q) refl

-- Worked texts, by evaluation: a wrong reading here is refused.
use Rattle.std.specs.Prelude.{◌≡◌, ◌++◌, ℕ, ℤ, pos, negsuc, List, [], ◌∷◌, None, Some, Result, Ok, Err, refl, codes}
use Rattle.fx_rational.specs.Interval.{Interval}
use Rattle.fx_inequalities.specs.Certificate.{Certificate}
use Rattle.fx_text.specs.declared.fault.TextKind.{TextKind}
use Rattle.fx_text.specs.declared.fault.TextKind.TheVariants.{Extra}
use Rattle.fx_text.specs.declared.fault.TextFault.{TextFault}
use Rattle.fx_text.specs.Numbers.{whole_of, integer_of, dyadic_of}
use Rattle.fx_text.specs.Reading.{keyword_at, number_at, place_at, count_at, dyadic_at, interval_at}
use Rattle.fx_text.specs.Lines.{fields_at, line_by, text_ended_at}
use Rattle.fx_text.specs.Many.{many, numbered_line, lines_by}
use Rattle.fx_cert_text.specs.FieldReading.{size_at, share_at, shares_at, some_shares_at, no_shares_at, by_at, known_turns, known_path, path_at}
use Rattle.fx_cert_text.specs.LineReading.{certificate_headline_at, certificate_sizes_at, step_count_at, step_at, start_at, template_counts_at, box_template_at, template_at, plain_at, form_at, formed_at, node_at}
use Rattle.fx_cert_text.specs.CertificateReading.{templates_at, steps_at, all_templates_at, certificate_at, certificate_in}

abbrev iv : ℤ → ℕ → ℤ → ℕ → Interval
iv a b c e = record { lo = record { m = a; e = b }; hi = record { m = c; e = e } }

-- one input and one state, with a step, a further template with a share, and a form
abbrev text : List ℕ
text = codes "fixd certificate 1\nsizes 1 1 3\nsteps 1\nstep 2 01 13\nstart 0:0 0:0 0:0 0:0\nrows 2 1\nbox -1:0 1:0 0\n"
    ++
    codes "row 1:1 -1:1 1:1 1 0 1:1\nbox -5:12 0:0 0\nplain 0:0 1:0 -1:12 0:0\nplain 0:0 1:0 0:0 0:0\n" ++
    codes "form 0:0 1:0 0:0 0:0 1:1 0:0 1:0 0:0 0:0 1:0 0:0 0:0 1 1 3:0 -\n"

abbrev fault : ℕ → TextKind → Result Certificate TextFault
fault line kind = Err (record { line = line; kind = kind })

abbrev told : Certificate
told = record {
  inputs = 1;
  states = 1;
  steps = record { place = 2; path = 0 ∷ 1 ∷ []; rule = 13 } ∷ [];
  starts = record { range = iv (pos 0) 0 (pos 0) 0; error = iv (pos 0) 0 (pos 0) 0 } ∷ [];
  templates =
      record { coefs = record { m = pos 1; e = 0 } ∷ []; bound = iv (negsuc 0) 0 (pos 1) 0; shares = [] } ∷
      record {
        coefs = record { m = pos 1; e = 1 } ∷ [];
        bound = iv (negsuc 0) 1 (pos 1) 1;
        shares = record { template = 0; times = record { m = pos 1; e = 1 } } ∷ [];
      } ∷ [];
  error_templates =
      record { coefs = record { m = pos 1; e = 0 } ∷ []; bound = iv (negsuc 4) 12 (pos 0) 0; shares = [] } ∷ [];
  lines =
      record { range = iv (pos 0) 0 (pos 1) 0; error = iv (negsuc 0) 12 (pos 0) 0; form = None } ∷
      record { range = iv (pos 0) 0 (pos 1) 0; error = iv (pos 0) 0 (pos 0) 0; form = None } ∷
      record {
        range = iv (pos 0) 0 (pos 1) 0;
        error = iv (pos 0) 0 (pos 0) 0;
        form = Some (record {
          centre_a = record { m = pos 1; e = 1 };
          centre_b = record { m = pos 0; e = 0 };
          coefs = record { m = pos 1; e = 0 } ∷ record { m = pos 0; e = 0 } ∷ [];
          rest = iv (pos 0) 0 (pos 1) 0;
          error_rest = iv (pos 0) 0 (pos 0) 0;
          range_by = Some (record { template = 1; times = record { m = pos 3; e = 0 } } ∷ []);
          error_by = None;
        });
      } ∷ [];
}

told_is : certificate_in text ≡ Ok told
unfolding whole_of integer_of dyadic_of keyword_at number_at place_at count_at dyadic_at interval_at fields_at line_by
    text_ended_at many numbered_line lines_by size_at share_at shares_at some_shares_at no_shares_at by_at known_turns
    known_path path_at certificate_headline_at certificate_sizes_at step_count_at step_at start_at template_counts_at
    box_template_at template_at plain_at form_at formed_at node_at templates_at steps_at all_templates_at certificate_at
    certificate_in
told_is = refl

more_behind : certificate_in (text ++ codes "\n") ≡ fault 13 Extra
unfolding whole_of integer_of dyadic_of keyword_at number_at place_at count_at dyadic_at interval_at fields_at line_by
    text_ended_at many numbered_line lines_by size_at share_at shares_at some_shares_at no_shares_at by_at known_turns
    known_path path_at certificate_headline_at certificate_sizes_at step_count_at step_at start_at template_counts_at
    box_template_at template_at plain_at form_at formed_at node_at templates_at steps_at all_templates_at certificate_at
    certificate_in
more_behind = refl

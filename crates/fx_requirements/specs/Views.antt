-- What the values of the code stand for.
use Rattle.std.specs.Prelude.{◌≡◌, List, map, Vec, Option}
use Rattle.std.specs.Option.{option_map}
use Rattle.std.specs.Global.{Global}
use Rattle.fx_rational.specs.Rational.{Rational}
use Rattle.fx_rational.specs.Decimal.{decimal_value}
use Rattle.fx_model.specs.Function as model
use Rattle.fx_grammar.specs.Ranges as ranges
use Rattle.fx_cursor.specs.declared.numeral.Numeral.{Numeral}
use Rattle.fx_cursor.specs.Texts.{numeral_decimal}
use Rattle.fx_requirements.specs.declared.subject.Subject.{Subject}
use Rattle.fx_requirements.specs.declared.subject.Named.{Named}
use Rattle.fx_requirements.specs.declared.condition.Conditions.{Conditions}
use Rattle.fx_requirements.specs.declared.ensuring.Demanded.{Demanded}

abbrev pub subject_of : Subject → ranges.Subject
subject_of s = record {
  name = s.name.now;
  at = s.at;
  lo = option_map numeral_decimal s.lo;
  hi = option_map numeral_decimal s.hi;
  err = option_map numeral_decimal s.err;
}

abbrev pub subjects_of : Vec Subject Global → ranges.Subjects
subjects_of v = map subject_of v.items

-- the set has their names
abbrev pub IsNamed : Named → Type 0
IsNamed n = n.names ≡ ranges.names_of (subjects_of n.subjects)

abbrev pub conditions_in : Conditions → ranges.Conditions
conditions_in c = record { depth = c.depth; wants = c.wants; subjects = subjects_of c.subjects }

abbrev pub inputs_value : Vec Subject Global → List model.Input
inputs_value v = map ranges.declared_input (subjects_of v)

-- the value of a number that may be given
abbrev pub given : Option Numeral → Option Rational
given n = option_map decimal_value (option_map numeral_decimal n)

abbrev pub demand_value : Demanded → model.Demand
demand_value d = record { err = given d.err; lo = given d.lo; hi = given d.hi }

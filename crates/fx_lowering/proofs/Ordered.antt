-- Codes each of which may follow those before it are the codes of a lawful program, and the codes of one do so.
use Rattle.std.proofs.Common.{◌≡◌, ℕ, ◌-◌, ◌+◌, ◌≤◌, List, [], ◌∷◌, length, ℤ, Result, Ok, Err, Option, Some, None, refl, subst, ◌∙◌, arith}
use Rattle.std.specs.Prelude.{Contains, IfOk, ◌↔◌}
use Rattle.std.specs.Option.{SomeIff}
use Rattle.std.proofs.lemmas.List.Elements.{All-nil}
use Rattle.fx_model.specs.Function.{Function, outputs}
use Rattle.fx_model.specs.LawfulProgram.{IsPoint, HasLawfulCounts, IsLawfulProgram, versions, widths, first_version}
use Rattle.fx_model.specs.Limits.{node_limit}
use Rattle.fx_model.specs.Machine.{Round, Code, Program, first_copy, points_of}
use Rattle.fx_expr.specs.LawfulFunction.{IsLawfulFunction}
use Rattle.fx_text.specs.Many.{AreEach}
use Rattle.fx_program.specs.CodeReading.{Head}
use Rattle.fx_program.specs.ProgramReading.{with_point}
use Rattle.fx_program.proofs.CodeTakes.{IsNext}
use Rattle.fx_program.proofs.Lists.{are_lawful, are_points, are_copies, are_of_version, are_each}
use Rattle.fx_program.proofs.Rounded.{has_version}
use Rattle.fx_lowering.specs.InOrder.{MayFollow}
use Rattle.fx_lowering.specs.OfFunction.{program_for}
use Rattle.fx_lowering.specs.declared.lawful.Frame.{Frame}

-- the head that a program's text has
abbrev head_of : Program → Head
head_of p = record {
  version = p.version;
  inputs = p.inputs;
  states = p.states;
  outputs = p.outputs;
  count = length p.codes;
}

-- what its codes are tested by
abbrev pub frame_of : Program → Frame
frame_of p = record {
  width = p.width;
  version = p.version;
  inputs = p.inputs;
  states = p.states;
  first_copy = first_copy p;
}

-- ---- a code that may follow is one that a reader takes
follows_as_read : (p : Program) (ps : List ℤ) (c : Code) → MayFollow (frame_of p) ps c →
    IsNext p.width (head_of p) ps c
follows_as_read p ps c h = record {
  lawful = h.stands.lawful;
  placed = h.stands.placed;
  point = h.point;
  copy = λ le. h.stands.copy (omega arith);
  of_version = h.stands.of_version;
}

read_as_follows : (p : Program) (ps : List ℤ) (c : Code) → IsNext p.width (head_of p) ps c →
    MayFollow (frame_of p) ps c
read_as_follows p ps c h = record {
  stands = record {
    lawful = h.lawful;
    placed = h.placed;
    of_version = h.of_version;
    copy = λ le. h.copy (omega arith);
  };
  point = h.point;
}

-- so are all
all_as_read : (p : Program) (ps : List ℤ) (cs : List Code) → AreEach (MayFollow (frame_of p)) with_point ps cs →
    AreEach (IsNext p.width (head_of p)) with_point ps cs
all_as_read p ps [] h = tt
all_as_read p ps (c ∷ cs) h = (follows_as_read p ps c h.0, all_as_read p (with_point ps c) cs h.1)

all_as_follow : (p : Program) (ps : List ℤ) (cs : List Code) → AreEach (IsNext p.width (head_of p)) with_point ps cs →
    AreEach (MayFollow (frame_of p)) with_point ps cs
all_as_follow p ps [] h = tt
all_as_follow p ps (c ∷ cs) h = (read_as_follows p ps c h.0, all_as_follow p (with_point ps c) cs h.1)

-- ---- the whole program
pub ordered_is_lawful : (p : Program) → Contains versions p.version → Contains widths p.width → HasLawfulCounts p →
    AreEach (MayFollow (frame_of p)) with_point [] p.codes → IsLawfulProgram p
ordered_is_lawful p version width counts h =
    let n = p.width in
    let s = head_of p in
    let each = all_as_read p [] p.codes h in
    record {
      version = version;
      width = width;
      counts = counts;
      codes = are_lawful n s 0 [] p.codes refl each;
      points = are_points n s [] p.codes (All-nil IsPoint) each;
      copies = are_copies n s (first_copy p) [] p.codes (omega arith) each;
      of_version = are_of_version n s [] p.codes each;
    }

pub lawful_is_ordered : (p : Program) → IsLawfulProgram p → AreEach (MayFollow (frame_of p)) with_point [] p.codes
lawful_is_ordered p h =
    let enough = h.counts.enough in
    all_as_follow p [] p.codes (are_each p.width (head_of p) 0 (first_copy p) [] p.codes refl (omega arith) h.codes
    h.points h.copies h.of_version)

-- ---- the program of a function
-- enough codes, and not too many
pub counts_of : (n : ℕ) (r : Round) (fn : Function) (cs : List Code) → IsLawfulFunction fn →
    length fn.inputs + length fn.states + (outputs fn + length fn.states) ≤ length cs → length cs ≤ node_limit →
    HasLawfulCounts (program_for n r fn cs)
counts_of n r fn cs lawful enough few = record {
  some_input = lawful.sizes.some_input;
  inputs = lawful.sizes.inputs;
  states = lawful.sizes.states;
  some_output = lawful.sizes.some_output;
  outputs = lawful.sizes.outputs;
  enough = enough;
  codes = few;
}

-- the frame as the code has it
frame_is : (n : ℕ) (r : Round) (fn : Function) (cs : List Code) (v i k m count first : ℕ) → v ≡ first_version r →
    i ≡ length fn.inputs → k ≡ length fn.states → m ≡ outputs fn → count ≡ length cs → first ≡ count - (m + k) →
    (let h : Frame = record { width = n; version = v; inputs = i; states = k; first_copy = first } in
    h ≡ frame_of (program_for n r fn cs))
frame_is n r fn cs v i k m count first ve ie ke me ce fe =
    let last : first ≡ length cs - (outputs fn + length fn.states) = fe ∙ (λ j. ce j - (me j + ke j)) in
    λ j. record { width = n; version = ve j; inputs = ie j; states = ke j; first_copy = last j }

-- what tells of one claim tells of another that follows from it and from which it follows
same_test : {T : Type 0} (o : Option T) (P Q : Type 0) (v : T) → P ↔ Q → SomeIff o P v → SomeIff o Q v
same_test None P Q v same not = λ q. not (same.1 q)
same_test (Some x) P Q v same h = (same.0 h.0, h.1)

-- the test of its codes is one of the program, where `points_in` shows the points that were found
pub frame_tested : {T E : Type 0} (points_in : T → Option (List ℤ)) (n : ℕ) (r : Round) (fn : Function) (cs : List Code)
    (v i k m count first : ℕ) (t : Result T E) → IsLawfulFunction fn → Contains widths n → v ≡ first_version r →
    i ≡ length fn.inputs → k ≡ length fn.states → m ≡ outputs fn → count ≡ length cs → first ≡ count - (m + k) →
    (i + k + (m + k) ≤ count) × (count ≤ node_limit) →
    (let h : Frame = record { width = n; version = v; inputs = i; states = k; first_copy = first } in
    IfOk t (λ t. SomeIff (points_in t) (AreEach (MayFollow h) with_point [] cs) (points_of cs))) →
    IfOk t (λ t. SomeIff (points_in t) (IsLawfulProgram (program_for n r fn cs)) (points_of cs))
frame_tested points_in n r fn cs v i k m count first (Err e) lawful width ve ie ke me ce fe le h = tt
frame_tested points_in n r fn cs v i k m count first (Ok t) lawful width ve ie ke me ce fe le h =
    let p = program_for n r fn cs in
    let same = frame_is n r fn cs v i k m count first ve ie ke me ce fe in
    let order =
    subst (λ (h : Frame). SomeIff (points_in t) (AreEach (MayFollow h) with_point [] cs) (points_of cs)) same h in
    let counts = counts_of n r fn cs lawful (omega (arith, le.0)) (omega (arith, le.1)) in
    same_test (points_in t) (AreEach (MayFollow (frame_of p)) with_point [] cs) (IsLawfulProgram p) (points_of cs)
    (ordered_is_lawful p (has_version r) width counts, lawful_is_ordered p) order

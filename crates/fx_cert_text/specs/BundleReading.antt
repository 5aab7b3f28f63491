-- Reading a bundle: a source by its count of bytes, and the texts of a program and a certificate. The first fault
-- decides.
use Rattle.std.specs.Prelude.{ℕ, ◌+◌, ◌==◌, List, take, drop, slice_index, length, Option, Some, None, Result, Ok, Err, if◌then◌else◌, codes}
use Rattle.std.specs.List.{count_by}
use Rattle.std.specs.Str.{bytes_eq}
use Rattle.fx_model.specs.Limits.{source_limit}
use Rattle.fx_model.specs.Machine.{Program}
use Rattle.fx_inequalities.specs.Certificate.{Certificate}
use Rattle.fx_text.specs.declared.fault.TextKind.{TextKind}
use Rattle.fx_text.specs.declared.fault.TextKind.TheVariants.{Section}
use Rattle.fx_text.specs.declared.fault.TextFault.{TextFault}
use Rattle.fx_text.specs.Faults.{fault_at}
use Rattle.fx_text.specs.Cutting.{Line, fields_of, line_at}
use Rattle.fx_model.specs.Steps.{◌>>=◌}
use Rattle.fx_text.specs.Reading.{keyword_at, count_at, ended_at}
use Rattle.fx_text.specs.Lines.{on_line, text_ended_at}
use Rattle.fx_program.specs.ProgramReading.{program_at}
use Rattle.fx_cert_text.specs.BundleView.{Parts}
use Rattle.fx_cert_text.specs.CertificateReading.{certificate_at, certificate_lines}

-- ---- lines whose lack is the fault of a section
-- the line that was cut off, and the text behind it
abbrev pub cut_section : ℕ → Option (List ℕ × List ℕ) → Result (List ℕ × List ℕ) TextFault
cut_section n None = Err (fault_at n Section)
cut_section n (Some parts) = Ok parts

-- this very line, the line n, and the text behind it
unfoldable pub section_at : List ℕ → ℕ → List ℕ → Result (List ℕ) TextFault
section_at word n text = do
  line ← cut_section n (line_at text)
  if bytes_eq line.0 word then Ok line.1 else Err (fault_at n Section)

-- the version that a bundle's first line names
unfoldable pub version_of : List ℕ → Result ℕ TextFault
version_of line =
    if bytes_eq line (codes "fixd bundle 1") then Ok 1
    else if bytes_eq line (codes "fixd bundle 2") then Ok 2
    else Err (fault_at 1 Section)

-- fixd bundle V, and the text behind it
unfoldable pub headline_at : List ℕ → Result (ℕ × List ℕ) TextFault
headline_at text = do
  line ← cut_section 1 (line_at text)
  v ← version_of line.0
  Ok (v, line.1)

-- any fault is one of the section
abbrev pub in_section : {A : Type 0} → Result A TextKind → Result A TextKind
in_section (Ok x) = Ok x
in_section (Err kind) = Err Section

-- source COUNT, of which the first field names the section
unfoldable pub source_count_at : Line → Result ℕ TextKind
source_count_at line = do
  rest ← in_section (keyword_at (codes "source") line)
  count ← count_at 0 source_limit rest
  _ ← ended_at count.1
  Ok count.0

-- the line n, which is source COUNT
unfoldable pub source_line : ℕ → List ℕ → Result (ℕ × List ℕ) TextFault
source_line n text = do
  line ← cut_section n (line_at text)
  count ← on_line n (source_count_at (fields_of line.0))
  Ok (count, line.1)

-- the source, of so many bytes, and a line feed behind it; the count stands on line n
unfoldable pub source_at : ℕ → ℕ → List ℕ → Result (List ℕ × List ℕ) TextFault
source_at n count text =
    if slice_index text count == 10 then Ok (take count text, drop (count + 1) text) else Err (fault_at n Section)

-- ---- all of it
-- how many lines a source takes, with the line feed behind it
abbrev pub source_lines : List ℕ → ℕ
source_lines source = count_by (λ b. b == 10) source + 1

-- a source from line n on, with its count
unfoldable pub counted_source_at : ℕ → List ℕ → Result (List ℕ × List ℕ) TextFault
counted_source_at n text = do
  count ← source_line n text
  source_at n count.0 count.1

-- how many lines a program takes, and a certificate, each with the line that names its section
abbrev pub program_lines : Program → ℕ
program_lines p = 5 + length p.codes

abbrev pub proof_lines : Certificate → ℕ
proof_lines c = 1 + certificate_lines c

-- the section of a program of version v from line n on
unfoldable pub program_section_at : ℕ → ℕ → List ℕ → Result (Program × List ℕ) TextFault
program_section_at v n text = do
  rest ← section_at (codes "program") n text
  program_at (Some v) (n + 1) rest

-- that of a certificate
unfoldable pub certificate_section_at : ℕ → List ℕ → Result (Certificate × List ℕ) TextFault
certificate_section_at n text = do
  rest ← section_at (codes "certificate") n text
  certificate_at (n + 1) rest

-- both, and the last line
unfoldable pub bundle_body_at : ℕ → ℕ → List ℕ → Result ((Program × Certificate) × List ℕ) TextFault
bundle_body_at v n text = do
  p ← program_section_at v n text
  c ← certificate_section_at (n + program_lines p.0) p.1
  rest ← section_at (codes "end") (n + program_lines p.0 + proof_lines c.0) c.1
  Ok ((p.0, c.0), rest)

-- a bundle, and the text behind its last line
unfoldable pub bundle_at : List ℕ → Result (Parts × List ℕ) TextFault
bundle_at text = do
  head ← headline_at text
  source ← counted_source_at 2 head.1
  body ← bundle_body_at head.0 (3 + source_lines source.0) source.1
  Ok (record { source = source.0; program = body.0.0; certificate = body.0.1 }, body.1)

-- how many lines a bundle's text has
abbrev pub bundle_lines : Parts → ℕ
bundle_lines b = 3 + source_lines b.source + program_lines b.program + proof_lines b.certificate

-- all of a text
unfoldable pub bundle_in : List ℕ → Result Parts TextFault
bundle_in text = do
  b ← bundle_at text
  _ ← text_ended_at (1 + bundle_lines b.0) b.1
  Ok b.0

-- A bundle has one spelling.
use Rattle.std.proofs.Common.{◌≡◌, ℕ, zero, suc, ◌+◌, ◌<◌, ◌≤◌, eqb, List, [], ◌∷◌, ◌++◌, length, take, drop, Option, Some, None, Result, Ok, Err, refl, sym, ap, subst, ◌∙◌, append_assoc, arith, tests, rules, codes, inl, inr, true}
use Rattle.std.specs.Prelude.{slice_index, Contains, ◌==◌}
use Rattle.std.proofs.lemmas.List.Elements.{All-contains, All-from_recursion}
use Rattle.fx_model.specs.LawfulProgram.{versions}
use Rattle.std.specs.Fmt.{decimal, digits}
use Rattle.std.specs.Str.{bytes_eq}
use Rattle.std.specs.List.{join_with_byte}
use Rattle.std.proofs.Math.Seq.{take-append_seam}
use Rattle.std.proofs.lemmas.List.{take-append-drop, take_more, length-take-le}
use Rattle.std.proofs.lemmas.Bool.{eqb-true}
use Rattle.std.proofs.lemmas.Slice.Eq.{bytes_eq-Decides}
use Rattle.fx_model.specs.Limits.{source_limit}
use Rattle.fx_model.specs.LineText.{line_text}
use Rattle.fx_model.specs.Machine.{Program}
use Rattle.fx_model.specs.ProgramText.{program_text}
use Rattle.fx_inequalities.specs.Certificate.{Certificate}
use Rattle.fx_inequalities.specs.LawfulCertificate.{IsLawfulCertificate}
use Rattle.fx_inequalities.specs.CertificateText.{certificate_text}
use Rattle.fx_text.specs.declared.fault.TextKind.{TextKind}
use Rattle.fx_text.specs.declared.fault.TextKind.TheVariants.{Section}
use Rattle.fx_text.specs.Cutting.{Line, fields_of, line_at}
use Rattle.fx_text.specs.Faults.{fault_at}
use Rattle.fx_model.specs.Steps.{◌>>=◌}
use Rattle.fx_text.specs.Lines.{fields_at, text_ended_at}
use Rattle.fx_text.specs.Spelling.{AreFields, IsField, IsOneSpelling, Lacks}
use Rattle.fx_model.proofs.Steps.{on_ok}
use Rattle.fx_text.proofs.Choices.{passed, chosen}
use Rattle.fx_text.proofs.FieldLaws.{front, ended_is, word_takes, word_again, count_takes, count_again}
use Rattle.fx_text.proofs.LineLaws.{cut_at-takes, cut_at-again, fields_at-takes, on_line-is, join-lacks, fields_of-join, IsField-decimal}
use Rattle.fx_text.proofs.TextLaws.{all_takes, all_again}
use Rattle.fx_program.specs.ProgramView.{IsSpelled}
use Rattle.fx_program.proofs.ProgramLaws.{program_law}
use Rattle.fx_cert_text.specs.BundleView.{Parts, IsLawfulBundle, text_of}
use Rattle.fx_cert_text.specs.BundleReading.{cut_section, section_at, version_of, headline_at, in_section, source_count_at, source_line, source_at, source_lines, counted_source_at, program_lines, proof_lines, program_section_at, certificate_section_at, bundle_body_at, bundle_at, bundle_lines, bundle_in}
use Rattle.fx_cert_text.proofs.CertificateLaws.{certificate_law}

-- ---- sections
cut_is : (n : ℕ) (o : Option (List ℕ × List ℕ)) (x : List ℕ × List ℕ) → cut_section n o ≡ Ok x → o ≡ Some x
cut_is n None x e = absurd cc
cut_is n (Some y) x e = cc

-- a line of one word
word_line : (word rest : List ℕ) → line_text (word ∷ []) ++ rest ≡ word ++ 10 ∷ rest
word_line word rest = append_assoc word (10 ∷ []) rest

section_takes : (word : List ℕ) (n : ℕ) (text rest : List ℕ) → section_at word n text ≡ Ok rest →
    text ≡ line_text (word ∷ []) ++ rest
unfolding section_at
section_takes word n text rest e =
    on_ok _ _ rest e (λ line hl e.
    let t = passed (bytes_eq line.0 word) (fault_at n Section) line.1 rest e in
    let cut = cut_at-takes 10 text line.0 line.1 (cut_is n (line_at text) line hl) in
    cut.0 ∙ ap (λ w. w ++ 10 ∷ line.1) ((bytes_eq-Decides line.0 word).0 t.0) ∙ ap (λ r. word ++ 10 ∷ r) t.1
    ∙ sym (word_line word rest))

section_again : (word : List ℕ) (n : ℕ) (rest : List ℕ) → Lacks 10 word →
    section_at word n (line_text (word ∷ []) ++ rest) ≡ Ok rest
unfolding section_at
section_again word n rest lacks =
    rw (word_line word rest, cut_at-again 10 word rest lacks, (bytes_eq-Decides word word).1 refl) refl

-- ---- the first line
abbrev headline : ℕ → Line
headline v = codes "fixd" ∷ codes "bundle" ∷ decimal v ∷ []

version_is : (line : List ℕ) (v : ℕ) → version_of line ≡ Ok v → line ++ 10 ∷ [] ≡ line_text (headline v)
unfolding version_of digits
version_is line v e = elim (chosen (bytes_eq line (codes "fixd bundle 1")) _ _ (Ok v) e) [
  | inl h ↦ let is : 1 ≡ v = cc in
      subst (λ (k : ℕ). line ++ 10 ∷ [] ≡ line_text (headline k)) is
      (ap (λ w. w ++ 10 ∷ []) ((bytes_eq-Decides line (codes "fixd bundle 1")).0 h.0))
  | inr g ↦ elim (chosen (bytes_eq line (codes "fixd bundle 2")) _ _ (Ok v) g.1) [
    | inl h ↦ let is : 2 ≡ v = cc in
        subst (λ (k : ℕ). line ++ 10 ∷ [] ≡ line_text (headline k)) is
        (ap (λ w. w ++ 10 ∷ []) ((bytes_eq-Decides line (codes "fixd bundle 2")).0 h.0))
    | inr h ↦ absurd cc
  ]
]

headline_takes : (text : List ℕ) (x : ℕ × List ℕ) → headline_at text ≡ Ok x → text ≡ line_text (headline x.0) ++ x.1
unfolding headline_at
headline_takes text x e =
    on_ok _ _ x e (λ line hl e.
    on_ok _ _ x e (λ v hv e.
    let cut = cut_at-takes 10 text line.0 line.1 (cut_is 1 (line_at text) line hl) in
    let made : (v, line.1) ≡ x = cc in
    subst (λ (y : ℕ × List ℕ). text ≡ line_text (headline y.0) ++ y.1) made
    (cut.0 ∙ sym (append_assoc line.0 (10 ∷ []) line.1) ∙ ap (λ w. w ++ line.1) (version_is line.0 v hv))))

-- a line that names a version
named_again : (word rest : List ℕ) (v : ℕ) → Lacks 10 word → version_of word ≡ Ok v →
    headline_at (line_text (word ∷ []) ++ rest) ≡ Ok (v, rest)
unfolding headline_at
named_again word rest v lacks e = rw (word_line word rest, cut_at-again 10 word rest lacks, e) refl

first_is : version_of (codes "fixd bundle 1") ≡ Ok 1
unfolding version_of
first_is = refl

second_is : version_of (codes "fixd bundle 2") ≡ Ok 2
unfolding version_of
second_is = refl

first_again : (rest : List ℕ) → headline_at (line_text (headline 1) ++ rest) ≡ Ok (1, rest)
unfolding digits
first_again rest = named_again (codes "fixd bundle 1") rest 1 (search rules) first_is

second_again : (rest : List ℕ) → headline_at (line_text (headline 2) ++ rest) ≡ Ok (2, rest)
unfolding digits
second_again rest = named_again (codes "fixd bundle 2") rest 2 (search rules) second_is

headline_again : (v : ℕ) (rest : List ℕ) → Contains versions v →
    headline_at (line_text (headline v) ++ rest) ≡ Ok (v, rest)
headline_again v rest h =
    All-contains (λ (k : ℕ). headline_at (line_text (headline k) ++ rest) ≡ Ok (k, rest)) versions v
    (All-from_recursion (λ (k : ℕ). headline_at (line_text (headline k) ++ rest) ≡ Ok (k, rest)) versions
    (first_again rest, (second_again rest, tt))) h

same_number : (a b : ℕ) → (a == b) ≡ true → a ≡ b
same_number a b e = grind (arith, tests)

is_same : (a : ℕ) → (a == a) ≡ true
is_same a = grind (arith, tests)

-- ---- the source
abbrev source_fields : ℕ → Line
source_fields n = codes "source" ∷ decimal n ∷ []

in_section-is : {A : Type 0} (r : Result A TextKind) (x : A) → in_section r ≡ Ok x → r ≡ Ok x
in_section-is (Ok y) x e = e
in_section-is (Err k) x e = absurd cc

count_takes_line : (line : Line) (n : ℕ) → source_count_at line ≡ Ok n → (line ≡ source_fields n) × (n ≤ source_limit)
unfolding source_count_at
count_takes_line line n e =
    on_ok _ _ n e (λ rest hr e.
    on_ok _ _ n e (λ k hk e.
    on_ok _ _ n e (λ d hd e.
    let pk = count_takes 0 source_limit rest k (omega arith) hk in
    let made : k.0 ≡ n = cc in
    subst (λ (n : ℕ). (line ≡ source_fields n) ×
    (n ≤ source_limit)) made (
      front (word_takes (codes "source") line rest (in_section-is (_) rest hr))
          (front pk.0 (ended_is k.1 d hd)),
      pk.2,
    ))))

count_again_line : (n : ℕ) → n ≤ source_limit → source_count_at (source_fields n) ≡ Ok n
unfolding source_count_at
count_again_line n h =
    rw (
      word_again (codes "source") (decimal n ∷ []),
      count_again 0 source_limit n [] (omega arith) (omega arith) h,
    ) refl

-- the line of a count is one line of fields
source_line_takes : (n : ℕ) (text : List ℕ) (x : ℕ × List ℕ) → source_line n text ≡ Ok x →
    (text ≡ line_text (source_fields x.0) ++ x.1) × (x.0 ≤ source_limit)
unfolding source_line fields_at
source_line_takes n text x e =
    on_ok _ _ x e (λ line hl e.
    on_ok _ _ x e (λ count hc e.
    let cut = cut_is n (line_at text) line hl in
    let fields : fields_at n text ≡ Ok (fields_of line.0, line.1) = rw cut refl in
    let t = count_takes_line (fields_of line.0) count (on_line-is n (source_count_at (fields_of line.0)) count hc) in
    let made : (count, line.1) ≡ x = cc in
    subst (λ (y : ℕ × List ℕ). (text ≡ line_text (source_fields y.0) ++ y.1) × (y.0 ≤ source_limit)) made
    ((fields_at-takes n text (fields_of line.0, line.1) fields).0 ∙ ap (λ fs. line_text fs ++ line.1) t.0, t.1)))

word_source : IsField (codes "source")
word_source = record { spaces = search rules; line_feeds = search rules }

clean_source : (n : ℕ) → n ≤ source_limit → AreFields (source_fields n)
clean_source n h = (word_source, (IsField-decimal n (omega arith), tt))

source_line_again : (n count : ℕ) (rest : List ℕ) → count ≤ source_limit →
    source_line n (line_text (source_fields count) ++ rest) ≡ Ok (count, rest)
unfolding source_line
source_line_again n count rest h =
    let joined = join_with_byte 32 (source_fields count) in let clean = clean_source count h in
    let cut : line_at (line_text (source_fields count) ++ rest) ≡ Some (joined, rest) =
    ap line_at (append_assoc joined (10 ∷ []) rest)
    ∙ cut_at-again 10 joined rest (join-lacks (source_fields count) clean) in
    rw (cut, fields_of-join (codes "source") (decimal count ∷ []) clean, count_again_line count h) refl

-- the source and its line feed
abbrev source_text : List ℕ → List ℕ
source_text source = line_text (source_fields (length source)) ++ (source ++ codes "\n")

-- a text at a byte, before and behind it
cut_out : (count : ℕ) (text : List ℕ) → slice_index text count ≡ 10 →
    (text ≡ take count text ++ 10 ∷ drop (count + 1) text) × (length (take count text) ≡ count)
cut_out count text e =
    let lt : count < length text = inside count text e in (
      sym (take-append-drop (count + 1) text) ∙ ap (λ t. t ++ drop (count + 1) text) (take_more text count 0 lt)
          ∙ append_assoc (take count text) (slice_index text count ∷ []) (drop (count + 1) text)
          ∙ ap (λ b. take count text ++ b ∷ drop (count + 1) text) e,
      length-take-le count text (omega arith),
    )
  where
    inside : (count : ℕ) (text : List ℕ) → slice_index text count ≡ 10 → count < length text
    inside count [] e = absurd (search rules)
    inside zero (b ∷ text) e = omega arith
    inside (suc count) (b ∷ text) e = let h = inside count text e in omega (arith, h)

source_takes : (n count : ℕ) (text : List ℕ) (x : List ℕ × List ℕ) → source_at n count text ≡ Ok x →
    (text ≡ (x.0 ++ codes "\n") ++ x.1) × (length x.0 ≡ count)
unfolding source_at
source_takes n count text x e =
    let t =
    passed (eqb (slice_index text count) 10) (fault_at n Section) (take count text, drop (count + 1) text) x e in
    let cut = cut_out count text (eqb-true (slice_index text count) 10 t.0) in
    subst (λ (y : List ℕ × List ℕ). (text ≡ (y.0 ++ codes "\n") ++ y.1) × (length y.0 ≡ count)) t.1
    (cut.0 ∙ sym (append_assoc (take count text) (10 ∷ []) (drop (count + 1) text)), cut.1)

source_again : (n : ℕ) (source rest : List ℕ) →
    source_at n (length source) ((source ++ codes "\n") ++ rest) ≡ Ok (source, rest)
unfolding source_at
source_again n source rest =
    rw (append_assoc source (codes "\n") rest, index source, take-append_seam source (10 ∷ rest), behind source) refl
  where
    index : (source : List ℕ) → slice_index (source ++ 10 ∷ rest) (length source) ≡ 10
    index [] = refl
    index (b ∷ source) = index source

    behind : (source : List ℕ) → drop (length source + 1) (source ++ 10 ∷ rest) ≡ rest
    behind [] = refl
    behind (b ∷ source) =
        let e : length (b ∷ source) + 1 ≡ suc (length source + 1) = omega arith in rw e (behind source)

counted_takes : (n : ℕ) (text : List ℕ) (x : List ℕ × List ℕ) → counted_source_at n text ≡ Ok x →
    (text ≡ source_text x.0 ++ x.1) × (length x.0 ≤ source_limit)
unfolding counted_source_at
counted_takes n text x e =
    on_ok _ _ x e (λ count hc e.
    let tc = source_line_takes n text count hc in let ts = source_takes n count.0 count.1 x e in (
      tc.0 ∙ ap (λ k. line_text (source_fields k) ++ count.1) (sym ts.1)
          ∙ ap (λ t. line_text (source_fields (length x.0)) ++ t) ts.0
          ∙ sym (append_assoc (line_text (source_fields (length x.0))) (x.0 ++ codes "\n") x.1),
      omega (arith, tc.1, ts.1),
    ))

counted_again : (n : ℕ) (source rest : List ℕ) → length source ≤ source_limit →
    counted_source_at n (source_text source ++ rest) ≡ Ok (source, rest)
unfolding counted_source_at
counted_again n source rest h =
    rw (
      append_assoc (line_text (source_fields (length source))) (source ++ codes "\n") rest,
      source_line_again n (length source) ((source ++ codes "\n") ++ rest) h,
      source_again n source rest,
    ) refl

-- ---- the sections behind it
abbrev body_text : Program → Certificate → List ℕ
body_text p c =
    line_text (codes "program" ∷ [])
    ++ (program_text p ++ (line_text (codes "certificate" ∷ [])
    ++ (certificate_text c ++ line_text (codes "end" ∷ []))))

body_regroup : (a b c d e rest : List ℕ) → a ++ (b ++ (c ++ (d ++ (e ++ rest)))) ≡ (a ++ (b ++ (c ++ (d ++ e)))) ++ rest
body_regroup a b c d e rest = simp append_assoc

body_takes : (v n : ℕ) (text : List ℕ) (x : (Program × Certificate) × List ℕ) → bundle_body_at v n text ≡ Ok x →
    (text ≡ body_text x.0.0 x.0.1 ++ x.1) × IsSpelled x.0.0 × IsLawfulCertificate x.0.1 × (x.0.0.version ≡ v)
unfolding bundle_body_at program_section_at certificate_section_at
body_takes v n text x e =
    on_ok {A = Program × List ℕ} _ _ x e (λ p hp e.
    on_ok {A = Certificate × List ℕ} _ _ x e (λ c hc e.
    on_ok {A = List ℕ} _ _ x e (λ rest hr e.
    on_ok {A = List ℕ} _ _ p hp (λ behind_program hw hp.
    on_ok {A = List ℕ} _ _ c hc (λ behind_certificate hv hc.
    let tw = section_takes (codes "program") n text behind_program hw in
    let tp = (program_law (Some v) (n + 1)).takes behind_program p hp in
    let tv = section_takes (codes "certificate") (n + program_lines p.0) p.1 behind_certificate hv in
    let tc = (certificate_law (n + program_lines p.0 + 1)).takes behind_certificate c hc in
    let te = section_takes (codes "end") (n + program_lines p.0 + proof_lines c.0) c.1 rest hr in
    let lw = line_text (codes "program" ∷ []) in let lv = line_text (codes "certificate" ∷ []) in
    let made : ((p.0, c.0), rest) ≡ x = cc in
    subst (λ (y : (Program × Certificate) × List ℕ). (text ≡ body_text y.0.0 y.0.1 ++ y.1) × IsSpelled y.0.0 ×
    IsLawfulCertificate y.0.1 × (y.0.0.version ≡ v)) made (
      tw ∙ ap (λ t. lw ++ t) (tp.0
          ∙ ap (λ t. program_text p.0 ++ t) (tv ∙ ap (λ t. lv ++ t) (tc.0 ∙ ap (λ t. certificate_text c.0 ++ t) te)))
          ∙ body_regroup lw (program_text p.0) lv (certificate_text c.0) (line_text (codes "end" ∷ [])) rest,
      tp.1.0,
      tc.1,
      same_number p.0.version v tp.1.1,
    ))))))

body_again : (n : ℕ) (p : Program) (c : Certificate) (rest : List ℕ) → IsSpelled p → IsLawfulCertificate c →
    bundle_body_at p.version n (body_text p c ++ rest) ≡ Ok ((p, c), rest)
unfolding bundle_body_at program_section_at certificate_section_at
body_again n p c rest hp hc =
    let le = line_text (codes "end" ∷ []) in let lv = line_text (codes "certificate" ∷ []) in
    let t3 = certificate_text c ++ (le ++ rest) in let t2 = lv ++ t3 in let t1 = program_text p ++ t2 in
    rw (
      sym (body_regroup (line_text (codes "program" ∷ [])) (program_text p) lv (certificate_text c) le rest),
      section_again (codes "program") n t1 (search rules),
      (program_law (Some p.version) (n + 1)).again p t2 (hp, is_same p.version),
      section_again (codes "certificate") (n + program_lines p) t3 (search rules),
      (certificate_law (n + program_lines p + 1)).again c (le ++ rest) hc,
      section_again (codes "end") (n + program_lines p + proof_lines c) rest (search rules),
    ) refl

-- ---- all of it
whole_regroup : (a b s n c p d t e rest : List ℕ) →
    (((((((((a ++ b) ++ s) ++ n) ++ c) ++ p) ++ d) ++ t) ++ e)) ++ rest ≡ a
    ++ ((b ++ (s ++ n)) ++ ((c ++ (p ++ (d ++ (t ++ e)))) ++ rest))
whole_regroup a b s n c p d t e rest = simp append_assoc

in_sections : (b : Parts) (rest : List ℕ) →
    text_of b ++ rest ≡ line_text (headline b.program.version)
    ++ (source_text b.source ++ (body_text b.program b.certificate ++ rest))
in_sections b rest =
    whole_regroup (line_text (headline b.program.version)) (line_text (source_fields (length b.source))) b.source
    (codes "\n")
    (line_text (codes "program" ∷ [])) (program_text b.program) (line_text (codes "certificate" ∷ []))
    (certificate_text b.certificate) (line_text (codes "end" ∷ [])) rest

takes : (text : List ℕ) (x : Parts × List ℕ) → bundle_at text ≡ Ok x → (text ≡ text_of x.0 ++ x.1) × IsLawfulBundle x.0
unfolding bundle_at
takes text x e =
    on_ok {A = ℕ × List ℕ} _ _ x e (λ head hh e.
    on_ok {A = List ℕ × List ℕ} _ _ x e (λ s hs e.
    on_ok {A = (Program × Certificate) × List ℕ} _ _ x e (λ body hb e.
    let th = headline_takes text head hh in
    let ts = counted_takes 2 head.1 s hs in
    let tb = body_takes head.0 (3 + source_lines s.0) s.1 body hb in
    let b : Parts = record { source = s.0; program = body.0.0; certificate = body.0.1 } in
    let first = line_text (headline b.program.version) in
    let made : (b, body.1) ≡ x = cc in
    subst (λ (y : Parts × List ℕ). (text ≡ text_of y.0 ++ y.1) × IsLawfulBundle y.0) made (
      th ∙ ap (λ v. line_text (headline v) ++ head.1) (sym tb.3)
          ∙ ap (λ t. first ++ t) (ts.0 ∙ ap (λ t. source_text s.0 ++ t) tb.0) ∙ sym (in_sections b body.1),
      record { source = ts.1; program = tb.1; certificate = tb.2 },
    ))))

again : (b : Parts) (rest : List ℕ) → IsLawfulBundle b → bundle_at (text_of b ++ rest) ≡ Ok (b, rest)
unfolding bundle_at
again b rest h =
    let t1 = body_text b.program b.certificate ++ rest in
    rw (
      in_sections b rest,
      headline_again b.program.version (source_text b.source ++ t1) h.program.lawful.version,
      counted_again 2 b.source t1 h.source,
      body_again (3 + source_lines b.source) b.program b.certificate rest h.program h.certificate,
    ) refl

pub bundle_law : IsOneSpelling bundle_at text_of IsLawfulBundle
bundle_law = record { takes = takes; again = again }

pub text_takes : (text : List ℕ) (b : Parts) → bundle_in text ≡ Ok b → (text ≡ text_of b) × IsLawfulBundle b
unfolding bundle_in
text_takes text b e = all_takes (λ (b : Parts). 1 + bundle_lines b) bundle_law text b e

pub text_again : (b : Parts) → IsLawfulBundle b → bundle_in (text_of b) ≡ Ok b
unfolding bundle_in
text_again b h = all_again (λ (b : Parts). 1 + bundle_lines b) bundle_law b h

-- a bundle by its parts, and then the text's end
pub by_parts : (text : List ℕ) (v : ℕ) (head : List ℕ) (source behind : List ℕ) (p : Program) (c : Certificate)
    (rest : List ℕ) (line first : ℕ) → headline_at text ≡ Ok (v, head) → counted_source_at 2 head ≡ Ok (source, behind)
    → first ≡ source_lines source → bundle_body_at v (3 + first) behind ≡ Ok ((p, c), rest) →
    line ≡ 1 + (3 + first + program_lines p + proof_lines c)
    → bundle_in text ≡ (text_ended_at line rest >>= λ _. Ok (record { source = source; program = p; certificate = c }))
unfolding bundle_in bundle_at
by_parts text v head source behind p c rest line first a b f d e =
    let g = subst (λ n. bundle_body_at v (3 + n) behind ≡ Ok ((p, c), rest)) f d in rw (a, b, g, e, f) refl

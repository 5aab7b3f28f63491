-- The lines of templates and nodes have one spelling each.
use Rattle.std.proofs.Common.{◌≡◌, ℕ, ◌^◌, ◌<◌, ◌≤◌, true, [], ◌∷◌, ◌++◌, map, Option, Some, None, Ok, Err, refl, sym, ap, subst, ◌∙◌, inl, inr, append_assoc, arith, rules, codes}
use Rattle.std.specs.Prelude.{◌&&◌, nat_le}
use Rattle.std.specs.Str.{bytes_eq}
use Rattle.std.specs.List.{AllByRecursion}
use Rattle.std.proofs.lemmas.Bool.Decides.{nat_tests}
use Rattle.std.proofs.lemmas.List.{append-nil}
use Rattle.std.proofs.lemmas.List.Elements.{recursion_from_All}
use Rattle.std.proofs.lemmas.Slice.Eq.{bytes_eq-Decides}
use Rattle.std.proofs.lemmas.Bool.{and_parts}
use Rattle.fx_rational.specs.Dyadic.{IsWritten}
use Rattle.fx_rational.specs.Interval.{IsWrittenInterval}
use Rattle.fx_model.specs.LineText.{dyadic_text, interval_fields}
use Rattle.fx_inequalities.specs.Certificate.{Form, NodeLine, Template}
use Rattle.fx_inequalities.specs.CertificateText.{share_fields, by_fields, box_fields, template_fields, form_fields, node_fields}
use Rattle.fx_inequalities.specs.LawfulCertificate.{AreShares, IsFormIfAny, IsWrittenForm, IsWrittenTemplate, unit_vector}
use Rattle.fx_text.specs.declared.fault.TextKind.TheVariants.{BadLine}
use Rattle.fx_text.specs.Cutting.{Line}
use Rattle.fx_text.specs.Spelling.{AreFields, IsField}
use Rattle.fx_model.proofs.Steps.{on_ok}
use Rattle.fx_text.proofs.Choices.{chosen}
use Rattle.fx_text.proofs.FieldLaws.{front, ended_is, field_is, word_takes, word_again}
use Rattle.fx_text.proofs.LineLaws.{IsLineOf}
use Rattle.fx_text.proofs.DyadicLaws.{IsField-dyadic_text, dyadic_takes, dyadic_again, interval_takes, interval_again, dyadics_spelling}
use Rattle.fx_cert_text.specs.FieldReading.{shares_at, by_at}
use Rattle.fx_cert_text.specs.LineReading.{box_template_at, template_at, plain_at, form_at, formed_at, node_at}
use Rattle.fx_cert_text.proofs.ShareLaws.{shares_law, by_law, clean_shares, clean_by}
use Rattle.fx_cert_text.proofs.CertificateLines.{part_behind, clean_append, clean_interval, clean_dyadics}

-- ---- templates
-- unit template i of k, among templates up to the end
pub record IsBox (k end i : ℕ) (r : Template) : Type 0 where
  pub coefs : r.coefs ≡ unit_vector k i
  pub bound : IsWrittenInterval r.bound
  pub shares : AreShares end 0 r.shares

pub box_law : (k end i : ℕ) → end < 2 ^ 32 → IsLineOf (box_template_at k end i) box_fields (IsBox k end i)
unfolding box_template_at
box_law k end i small = record { takes = takes; again = again; clean = clean }
  where
    takes : (line : Line) (r : Template) → box_template_at k end i line ≡ Ok r → (line ≡ box_fields r) × IsBox k end i r
    takes line r e =
        on_ok _ _ r e (λ rest hr e.
        on_ok _ _ r e (λ b hb e.
        on_ok _ _ r e (λ s hs e.
        on_ok _ _ r e (λ d hd e.
        let tb = interval_takes rest b hb in let ts = (shares_law end small).takes b.1 s hs in
        let made : record { coefs = unit_vector k i; bound = b.0; shares = s.0 } ≡ r = cc in
        let shares : b.1 ≡ share_fields s.0 = part_behind (share_fields s.0) ts.0 (ended_is s.1 d hd)
        ∙ append-nil (share_fields s.0) in
        subst (λ r. (line ≡ box_fields r) × IsBox k end i r) made (
          front (word_takes (codes "box") line rest hr) (part_behind (interval_fields b.0) tb.0 shares),
          record { coefs = refl; bound = tb.1; shares = ts.1 },
        )))))

    again : (r : Template) → IsBox k end i r → box_template_at k end i (box_fields r) ≡ Ok r
    again r h =
        let shares : shares_at end (share_fields r.shares) ≡ Ok (r.shares, []) =
        ap (shares_at end) (sym (append-nil (share_fields r.shares)))
        ∙ (shares_law end small).again r.shares [] h.shares in
        rw (
          word_again (codes "box") (interval_fields r.bound ++ share_fields r.shares),
          interval_again r.bound (share_fields r.shares) h.bound,
          shares,
        ) (ap (λ c. Ok (record { coefs = c; bound = r.bound; shares = r.shares })) (sym h.coefs))

    word_box : IsField (codes "box")
    word_box = record { spaces = search rules; line_feeds = search rules }

    clean : (r : Template) → IsBox k end i r → AreFields (box_fields r)
    clean r h = (
      word_box,
      clean_append (interval_fields r.bound) (share_fields r.shares) (clean_interval r.bound h.bound)
          (clean_shares end r.shares small h.shares),
    )

pub template_law : (k end : ℕ) → end < 2 ^ 32 → IsLineOf (template_at k end) template_fields (IsWrittenTemplate k end)
unfolding template_at
template_law k end small = record { takes = takes; again = again; clean = clean }
  where
    regroup : (a b c : Line) → (a ++ b) ++ c ≡ a ++ (b ++ c)
    regroup a b c = append_assoc a b c

    takes : (line : Line) (r : Template) → template_at k end line ≡ Ok r →
        (line ≡ template_fields r) × IsWrittenTemplate k end r
    takes line r e =
        on_ok _ _ r e (λ rest hr e.
        on_ok _ _ r e (λ c hc e.
        on_ok _ _ r e (λ b hb e.
        on_ok _ _ r e (λ s hs e.
        on_ok _ _ r e (λ d hd e.
        let tc = (dyadics_spelling k).takes rest c hc in let tb = interval_takes c.1 b hb in
        let ts = (shares_law end small).takes b.1 s hs in
        let made : record { coefs = c.0; bound = b.0; shares = s.0 } ≡ r = cc in
        let shares : b.1 ≡ share_fields s.0 = part_behind (share_fields s.0) ts.0 (ended_is s.1 d hd)
        ∙ append-nil (share_fields s.0) in
        let fields = part_behind (map dyadic_text c.0) tc.0 (part_behind (interval_fields b.0) tb.0 shares)
        ∙ sym (regroup (map dyadic_text c.0) (interval_fields b.0) (share_fields s.0)) in
        subst (λ r. (line ≡ template_fields r) × IsWrittenTemplate k end r) made (
          front (word_takes (codes "row") line rest hr) fields,
          record { coefs = tc.1.0; written = tc.1.1; bound = tb.1; shares = ts.1 },
        ))))))

    again : (r : Template) → IsWrittenTemplate k end r → template_at k end (template_fields r) ≡ Ok r
    again r h =
        let texts = map dyadic_text r.coefs in let behind_coefs = interval_fields r.bound ++ share_fields r.shares in
        let shares : shares_at end (share_fields r.shares) ≡ Ok (r.shares, []) =
        ap (shares_at end) (sym (append-nil (share_fields r.shares)))
        ∙ (shares_law end small).again r.shares [] h.shares in
        rw (
          regroup texts (interval_fields r.bound) (share_fields r.shares),
          word_again (codes "row") (texts ++ behind_coefs),
          (dyadics_spelling k).again r.coefs behind_coefs (h.coefs, h.written),
          interval_again r.bound (share_fields r.shares) h.bound,
          shares,
        ) refl

    word_template : IsField (codes "row")
    word_template = record { spaces = search rules; line_feeds = search rules }

    clean : (r : Template) → IsWrittenTemplate k end r → AreFields (template_fields r)
    clean r h = (
      word_template,
      clean_append (map dyadic_text r.coefs ++ interval_fields r.bound) (share_fields r.shares)
          (clean_append (map dyadic_text r.coefs) (interval_fields r.bound)
          (clean_dyadics r.coefs (recursion_from_All IsWritten r.coefs h.written)) (clean_interval r.bound h.bound))
          (clean_shares end r.shares small h.shares),
    )

-- ---- nodes
-- what is asked of the line of node n
pub record IsNodeLine (v templates error_templates n : ℕ) (l : NodeLine) : Type 0 where
  pub range : IsWrittenInterval l.range
  pub error : IsWrittenInterval l.error
  pub form : IsFormIfAny v templates error_templates n l.form

-- part_behind the word of a line
abbrev boxes : NodeLine → Line
boxes l = interval_fields l.range ++ interval_fields l.error

-- a form's parts, from the last on
abbrev form_tail : Form → Line
form_tail f = interval_fields f.rest ++ (interval_fields f.error_rest ++ (by_fields f.range_by ++ by_fields f.error_by))

form_parts : (f : Form) →
    form_fields f ≡ dyadic_text f.centre_a ∷ dyadic_text f.centre_b ∷ (map dyadic_text f.coefs ++ form_tail f)
form_parts f =
    ap (λ l. dyadic_text f.centre_a ∷ dyadic_text f.centre_b ∷ l)
    (by (map dyadic_text f.coefs) (interval_fields f.rest) (interval_fields f.error_rest) (by_fields f.range_by)
    (by_fields f.error_by))
  where
    by : (a b c d e : Line) → (((a ++ b) ++ c) ++ d) ++ e ≡ a ++ (b ++ (c ++ (d ++ e)))
    by a b c d e = simp append_assoc

form_takes : (v templates error_templates : ℕ) (line : Line) (f : Form) → templates < 2 ^ 32 →
    error_templates < 2 ^ 32 → form_at v templates error_templates line ≡ Ok f →
    (line ≡ form_fields f) × IsWrittenForm v templates error_templates f
unfolding form_at
form_takes v templates error_templates line f small small_errors e =
    on_ok _ _ f e (λ a ha e.
    on_ok _ _ f e (λ b hb e.
    on_ok _ _ f e (λ c hc e.
    on_ok _ _ f e (λ p hp e.
    on_ok _ _ f e (λ q hq e.
    on_ok _ _ f e (λ r hr e.
    on_ok _ _ f e (λ s hs e.
    on_ok _ _ f e (λ d hd e.
    let ta = dyadic_takes line a ha in let tb = dyadic_takes a.1 b hb in let tc = (dyadics_spelling v).takes b.1 c hc in
    let tp = interval_takes c.1 p hp in let tq = interval_takes p.1 q hq in
    let tr = (by_law templates small).takes q.1 r hr in let ts = (by_law error_templates small_errors).takes r.1 s hs in
    let made : record {
      centre_a = a.0;
      centre_b = b.0;
      coefs = c.0;
      rest = p.0;
      error_rest = q.0;
      range_by = r.0;
      error_by = s.0;
    } ≡ f = cc in
    let errors : r.1 ≡ by_fields s.0 = part_behind (by_fields s.0) ts.0 (ended_is s.1 d hd) ∙ append-nil (by_fields s.0) in
    let fields =
    front ta.0 (front tb.0 (part_behind (map dyadic_text c.0) tc.0
    (part_behind (interval_fields p.0) tp.0
    (part_behind (interval_fields q.0) tq.0 (part_behind (by_fields r.0) tr.0 errors))))) in
    subst (λ f. (line ≡ form_fields f) × IsWrittenForm v templates error_templates f) made (
      fields ∙ sym (form_parts (record {
        centre_a = a.0;
        centre_b = b.0;
        coefs = c.0;
        rest = p.0;
        error_rest = q.0;
        range_by = r.0;
        error_by = s.0;
      })),
      record {
        centre_a = ta.1;
        centre_b = tb.1;
        coefs = tc.1.0;
        written = tc.1.1;
        rest = tp.1;
        error_rest = tq.1;
        range_by = tr.1;
        error_by = ts.1;
      },
    )))))))))

form_again : (v templates error_templates : ℕ) (f : Form) → templates < 2 ^ 32 → error_templates < 2 ^ 32 →
    IsWrittenForm v templates error_templates f → form_at v templates error_templates (form_fields f) ≡ Ok f
unfolding form_at
form_again v templates error_templates f small small_errors h =
    let errors : by_at error_templates (by_fields f.error_by) ≡ Ok (f.error_by, []) =
    ap (by_at error_templates) (sym (append-nil (by_fields f.error_by)))
    ∙ (by_law error_templates small_errors).again f.error_by [] h.error_by in
    let bys = by_fields f.range_by ++ by_fields f.error_by in
    rw (
      form_parts f,
      dyadic_again f.centre_a (dyadic_text f.centre_b ∷ (map dyadic_text f.coefs ++ form_tail f)) h.centre_a,
      dyadic_again f.centre_b (map dyadic_text f.coefs ++ form_tail f) h.centre_b,
      (dyadics_spelling v).again f.coefs (form_tail f) (h.coefs, h.written),
      interval_again f.rest (interval_fields f.error_rest ++ bys) h.rest,
      interval_again f.error_rest bys h.error_rest,
      (by_law templates small).again f.range_by (by_fields f.error_by) h.range_by,
      errors,
    ) refl

clean_form : (v templates error_templates : ℕ) (f : Form) → templates < 2 ^ 32 → error_templates < 2 ^ 32 →
    IsWrittenForm v templates error_templates f → AllByRecursion IsField (form_fields f)
clean_form v templates error_templates f small small_errors h =
    let bys = by_fields f.range_by ++ by_fields f.error_by in let tail = interval_fields f.error_rest ++ bys in
    subst (AllByRecursion IsField) (sym (form_parts f)) (
      IsField-dyadic_text f.centre_a h.centre_a,
      (
        IsField-dyadic_text f.centre_b h.centre_b,
        clean_append (map dyadic_text f.coefs) (form_tail f)
            (clean_dyadics f.coefs (recursion_from_All IsWritten f.coefs h.written))
            (clean_append (interval_fields f.rest) tail (clean_interval f.rest h.rest)
            (clean_append (interval_fields f.error_rest) bys (clean_interval f.error_rest h.error_rest)
            (clean_append (by_fields f.range_by) (by_fields f.error_by) (clean_by templates f.range_by small h.range_by)
            (clean_by error_templates f.error_by small_errors h.error_by)))),
      ),
    )

-- part_behind plain
plain_takes : (v templates error_templates n : ℕ) (line : Line) (l : NodeLine) → plain_at line ≡ Ok l →
    (codes "plain" ∷ line ≡ node_fields l l.form) × IsNodeLine v templates error_templates n l
unfolding plain_at
plain_takes v templates error_templates n line l e =
    on_ok _ _ l e (λ g hg e.
    on_ok _ _ l e (λ h hh e.
    on_ok _ _ l e (λ d hd e.
    let tg = interval_takes line g hg in let th = interval_takes g.1 h hh in
    let made : record { range = g.0; error = h.0; form = None } ≡ l = cc in
    subst (λ l. (codes "plain" ∷ line ≡ node_fields l l.form) × IsNodeLine v templates error_templates n l) made (
      ap (λ fs. codes "plain" ∷ fs)
          (part_behind (interval_fields g.0) tg.0 (part_behind (interval_fields h.0) th.0 (ended_is h.1 d hd))),
      record { range = tg.1; error = th.1; form = tt },
    ))))

-- part_behind form
formed_takes : (v templates error_templates n : ℕ) (line : Line) (l : NodeLine) → templates < 2 ^ 32 →
    error_templates < 2 ^ 32 → v ≤ n → formed_at v templates error_templates line ≡ Ok l →
    (codes "form" ∷ line ≡ node_fields l l.form) × IsNodeLine v templates error_templates n l
unfolding formed_at
formed_takes v templates error_templates n line l small small_errors le e =
    on_ok _ _ l e (λ g hg e.
    on_ok _ _ l e (λ h hh e.
    on_ok _ _ l e (λ f hf e.
    let tg = interval_takes line g hg in let th = interval_takes g.1 h hh in
    let tf = form_takes v templates error_templates h.1 f small small_errors hf in
    let made : record { range = g.0; error = h.0; form = Some f } ≡ l = cc in
    subst (λ l. (codes "form" ∷ line ≡ node_fields l l.form) × IsNodeLine v templates error_templates n l) made (
      ap (λ fs. codes "form" ∷ fs) (part_behind (interval_fields g.0) tg.0 (part_behind (interval_fields h.0) th.0 tf.0)),
      record { range = tg.1; error = th.1; form = (le, tf.1) },
    ))))

pub node_law : (v templates error_templates n : ℕ) → templates < 2 ^ 32 → error_templates < 2 ^ 32 →
    IsLineOf (node_at v templates error_templates n) (λ l. node_fields l l.form) (IsNodeLine v templates error_templates n)
unfolding node_at plain_at formed_at
node_law v templates error_templates n small small_errors =
    record { takes = takes; again = λ l h. again l l.form refl h; clean = λ l h. clean l l.form refl h }
  where
    takes : (line : Line) (l : NodeLine) → node_at v templates error_templates n line ≡ Ok l →
        (line ≡ node_fields l l.form) × IsNodeLine v templates error_templates n l
    takes line l e =
        on_ok _ _ l e (λ kind hk e.
        let whole = field_is line kind hk in
        elim (chosen (bytes_eq kind.0 (codes "plain")) _ _ (Ok l) e) [
          | inl h ↦
              let t = plain_takes v templates error_templates n kind.1 l h.1 in
              (whole ∙ ap (λ w. w ∷ kind.1) ((bytes_eq-Decides kind.0 (codes "plain")).0 h.0) ∙ t.0, t.1)
          | inr g ↦
              elim (chosen (nat_le v n && bytes_eq kind.0 (codes "form")) _ (Err BadLine) (Ok l) g.1) [
                | inl h ↦
                    let tests = and_parts (nat_le v n) (bytes_eq kind.0 (codes "form")) h.0 in
                    let le : v ≤ n = grind (arith, nat_tests, tests.0) in
                    let t = formed_takes v templates error_templates n kind.1 l small small_errors le h.1 in
                    (whole ∙ ap (λ w. w ∷ kind.1) ((bytes_eq-Decides kind.0 (codes "form")).0 tests.1) ∙ t.0, t.1)
                | inr h ↦ absurd cc
              ]
        ])

    again : (l : NodeLine) (form : Option Form) → l.form ≡ form → IsNodeLine v templates error_templates n l →
        node_at v templates error_templates n (node_fields l form) ≡ Ok l
    again l None e h =
        rw (
          interval_again l.range (interval_fields l.error) h.range,
          interval_again l.error [] h.error,
        ) (ap (λ f. Ok (record { range = l.range; error = l.error; form = f }))
        (sym e))
    again l (Some f) e h =
        let w = subst (IsFormIfAny v templates error_templates n) e h.form in
        let le : nat_le v n ≡ true = grind (arith, nat_tests, w.0) in
        let texts : (interval_fields l.range ++ interval_fields l.error) ++ form_fields f ≡ interval_fields l.range
        ++ (interval_fields l.error ++ form_fields f) =
        append_assoc (interval_fields l.range) (interval_fields l.error) (form_fields f) in
        rw (
          le,
          interval_again l.range (interval_fields l.error ++ form_fields f) h.range,
          interval_again l.error (form_fields f) h.error,
          form_again v templates error_templates f small small_errors w.1,
        )
        (ap (λ f. Ok (record { range = l.range; error = l.error; form = f })) (sym e))

    word_plain : IsField (codes "plain")
    word_plain = record { spaces = search rules; line_feeds = search rules }

    word_form : IsField (codes "form")
    word_form = record { spaces = search rules; line_feeds = search rules }

    clean_boxes : (l : NodeLine) → IsNodeLine v templates error_templates n l →
        AllByRecursion IsField (interval_fields l.range ++ interval_fields l.error)
    clean_boxes l h =
        clean_append (interval_fields l.range) (interval_fields l.error) (clean_interval l.range h.range)
        (clean_interval l.error h.error)

    clean : (l : NodeLine) (form : Option Form) → l.form ≡ form → IsNodeLine v templates error_templates n l →
        AreFields (node_fields l form)
    clean l None e h = (word_plain, clean_boxes l h)
    clean l (Some f) e h =
        let w = subst (IsFormIfAny v templates error_templates n) e h.form in (
          word_form,
          clean_append (interval_fields l.range ++ interval_fields l.error) (form_fields f) (clean_boxes l h)
              (clean_form v templates error_templates f small small_errors w.1),
        )

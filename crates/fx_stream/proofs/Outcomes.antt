-- Lemmas on outcomes of lines behind others.
use Rattle.std.proofs.Common.{◌≡◌, ℕ, ◌+◌, List, [], ◌++◌, Option, arith, refl, sym, ap, ◌∙◌, append_assoc}
use Rattle.std.specs.Prelude.{None, Some}
use Rattle.fx_stream.specs.Outcome.{Outcome, behind_lines, behind_text}
use Rattle.fx_rows.specs.ReadRows.{moved_down}

pub outcome-same : {T : Type 0} (t u : List ℕ) (m n : ℕ) (b d : Option (ℕ × T)) → t ≡ u → m ≡ n → b ≡ d
    → ◌≡◌ {A = Outcome T} (record { text = t; rows = m; bad = b }) (record { text = u; rows = n; bad = d })
outcome-same t u m n b d p q r =
    ap (λ x. record { text = x; rows = m; bad = b }) p ∙ ap (λ x. record { text = u; rows = x; bad = b }) q
    ∙ ap (λ x. record { text = u; rows = n; bad = x }) r

shifted-twice : {T : Type 0} (j k : ℕ) (b : Option (ℕ × T)) → moved_down j (moved_down k b) ≡ moved_down (j + k) b
shifted-twice j k None = refl
shifted-twice j k (Some p) = ap (λ n. Some (n, p.1)) (let e : j + (k + p.0) ≡ j + k + p.0 = omega arith in e)

-- lines behind lines behind others
pub behind-twice : {T : Type 0} (j k : ℕ) (s t : List ℕ) (m n : ℕ) (o : Outcome T) →
    behind_lines j s m (behind_lines k t n o) ≡ behind_lines (j + k) (s ++ t) (m + n) o
behind-twice j k s t m n o =
    outcome-same _ _ _ _ _ _ (sym (append_assoc s t o.text)) (let e : m + (n + o.rows) ≡ m + n + o.rows = omega arith in
    e) (shifted-twice j k o.bad)

-- the same, told of what is the same
pub behind-same : {T : Type 0} (j k : ℕ) (s t : List ℕ) (m n : ℕ) (o : Outcome T) → j ≡ k → s ≡ t → m ≡ n →
    behind_lines j s m o ≡ behind_lines k t n o
behind-same j k s t m n o p q r =
    ap (λ x. behind_lines x s m o) p ∙ ap (λ x. behind_lines k x m o) q ∙ ap (λ x. behind_lines k t x o) r

shifted-nothing : {T : Type 0} (b : Option (ℕ × T)) → b ≡ moved_down 0 b
shifted-nothing None = refl
shifted-nothing (Some p) = ap (λ n. Some (n, p.1)) (let e : p.0 ≡ 0 + p.0 = omega arith in e)

-- behind no lines
pub behind-nothing : {T : Type 0} (o : Outcome T) → o ≡ behind_lines 0 [] 0 o
behind-nothing o =
    outcome-same o.text o.text o.rows (0 + o.rows) o.bad (moved_down 0 o.bad) refl (omega arith) (shifted-nothing o.bad)

-- lines behind lines whose text was held back
pub behind-held : {T : Type 0} (k : ℕ) (s t : List ℕ) (n : ℕ) (o : Outcome T) →
    behind_lines k s n (behind_text t o) ≡ behind_lines k (s ++ t) n o
behind-held k s t n o = outcome-same _ _ _ _ _ _ (sym (append_assoc s t o.text)) refl refl

-- Line feeds, and the last line.
use Rattle.std.proofs.Common.{◌≡◌, ◌∙◌, ◌<◌, ◌≤◌, ◌+◌, ◌-◌, ◌++◌, ℕ, suc, true, List, [], ◌∷◌, length, take, drop, get_or, Some, None, ap, sym, subst, arith}
use Rattle.std.proofs.lemmas.Grind.{common_steps}
use Rattle.std.proofs.Math.Seq.{drop-cons, get_or-append_seam}
use Rattle.std.proofs.lemmas.List.{take-append-drop, take_all, drop_all, length-append, length-drop, length-take, get_or-drop, get_or-take, get_or_append_left, get_or_default}
use Rattle.memchr.specs.Find.{IsLastByte, is_byte}
use Rattle.fx_demo.specs.LastLine.{HasTwoLines, IsLastLine}

-- the bytes before a line feed, and those behind it
at-feed : (bytes : List ℕ) (end : ℕ) → end < length bytes → is_byte 10 (get_or bytes end 0) ≡ true →
    bytes ≡ take end bytes ++ 10 ∷ drop (suc end) bytes
at-feed bytes end within feed =
    let ten : get_or bytes end 0 ≡ 10 = grind (arith, common_steps) in
    sym (take-append-drop end bytes)
    ∙ ap (λ t. take end bytes ++ t) (drop-cons bytes end 0 within ∙ ap (λ x. x ∷ drop (suc end) bytes) ten)

-- behind the last feed of the lines stands none
behind : (lines : List ℕ) (before : ℕ) → IsLastByte (is_byte 10) lines (Some before) → (k : ℕ) →
    k < length (drop (suc before) lines) → get_or (drop (suc before) lines) k 10 ≡ 10 → ⊥
behind lines before last k within ten =
    let count = length-drop (suc before) lines in
    last.0.after (suc before + k) (omega arith) (omega (arith, within, count))
    (ap (is_byte 10) (sym (get_or-drop (suc before) lines k 0) ∙ get_or_default (drop (suc before) lines) k 0 10 within
    ∙ ten))

-- the last feed ends the page, and the one before it the other lines
last-line : (page : List ℕ) (end before : ℕ) → IsLastByte (is_byte 10) page (Some end) → length page ≤ suc end →
    IsLastByte (is_byte 10) (take end page) (Some before) →
    IsLastLine page (drop (suc before) (take end page))
last-line page end before last over other =
    let lines = take end page in record {
      before = take before lines;
      parts = at-feed page end last.0.high last.1 ∙ ap (λ rest. lines ++ 10 ∷ rest) (drop_all (suc end) page over)
          ∙ ap (λ ls. ls ++ 10 ∷ []) (at-feed lines before other.0.high other.1);
      one = λ c. behind lines before other c.0 c.1 c.2;
    }

-- as a slice has it
pub last-line-of : (page : List ℕ) (end before : ℕ) → IsLastByte (is_byte 10) page (Some end) → length page ≤ end + 1 →
    IsLastByte (is_byte 10) (take end page) (Some before) →
    IsLastLine page (take (length (take end page) - (before + 1)) (drop (before + 1) (take end page)))
last-line-of page end before last over other =
    let lines = take end page in let next : suc before ≡ before + 1 = omega arith in
    let all : take (length lines - (before + 1)) (drop (before + 1) lines) ≡ drop (before + 1) lines =
    take_all (length lines - (before + 1)) (drop (before + 1) lines)
    (omega (arith, length-drop (before + 1) lines)) in
    subst (IsLastLine page) (ap (λ n. drop n lines) next
    ∙ sym all) (last-line page end before last (omega (arith, over)) other)

-- ---- two lines
-- where both line feeds stand, the other at the end
record Feeds (text : List ℕ) : Type 0 where
  first : ℕ
  last : ℕ
  order : first < last
  end : length text ≡ last + 1
  at_first : is_byte 10 (get_or text first 0) ≡ true

feeds : (text : List ℕ) → HasTwoLines text → Feeds text
feeds text two =
    let b = two.before in let m = two.more in let front = b ++ 10 ∷ m in
    let order : length b < length front = omega (arith, length-append b (10 ∷ m)) in record {
      first = length b;
      last = length front;
      order = order;
      end = ap length two.parts ∙ length-append front (10 ∷ []);
      at_first = ap (λ t. is_byte 10 (get_or t (length b) 0)) two.parts
          ∙ ap (is_byte 10) (get_or_append_left front (10 ∷ []) 0 (length b) order ∙ get_or-append_seam b 10 m 0);
    }

-- none stands before the last
pub no-feed-before : (page : List ℕ) (end : ℕ) → end < length page → length page ≤ end + 1 →
    IsLastByte (is_byte 10) (take end page) None → ¬ HasTwoLines page
no-feed-before page end within over none two =
    let f = feeds page two in let before : f.first < end = omega (arith, over, f.end, f.order) in
    none f.first (omega arith) (omega (arith, within, before, length-take end page))
    (ap (is_byte 10) (get_or-take end page f.first 0 before) ∙ f.at_first)

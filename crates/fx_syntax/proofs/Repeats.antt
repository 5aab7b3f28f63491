-- Items one behind the other, read and spelled.
use Rattle.std.proofs.Common.{◌≡◌, ℕ, zero, suc, ◌<◌, ◌≤◌, Bool, true, false, length, drop, Result, Ok, refl, sym, ap, subst, ◌∙◌, arith}
use Rattle.fx_lexer.specs.declared.fault.SourceFault.{SourceFault}
use Rattle.fx_lexer.specs.Tokens.{Lexeme}
use Rattle.fx_grammar.specs.declared.head.Head.{Head}
use Rattle.fx_grammar.specs.declared.head.Head.TheVariants as heads
use Rattle.fx_grammar.specs.Heads.{◌==ₕ◌}
use Rattle.fx_grammar.specs.Steps.{Tokens, Parsed, when, next_head, repeat, repeated, stands_next, behind, separated, listed}
use Rattle.fx_syntax.specs.Leaves.{IsNext}
use Rattle.fx_syntax.specs.Runs.{GrammarRule, IsRun, over, more, IsBehind, IsSeparated, IsListed}
use Rattle.fx_syntax.proofs.Outcomes.{OnOk, done, and_then, weaken, steps}
use Rattle.fx_syntax.proofs.Marks.{mark, same_head, next_is, is_next, not_next, behind_is, next_shorter, want_spells, want_reads}

-- what was read is this view of a value of which Is says so
pub record Seen {A S : Type 0} (view : A → S) (Is : A → Tokens → Type 0) (x : S × Tokens) : Type 0 where
  pub value : A
  pub same : x.0 ≡ view value
  pub is : Is value x.1

pub when_choose : {A : Type 0} {P : A → Type 0} (f g : Unit {0} → Result A SourceFault) (b : Bool) →
    (b ≡ true → OnOk P (f tt)) → (b ≡ false → OnOk P (g tt)) → OnOk P (when b f g)
when_choose f g true f' g' = f' refl
when_choose f g false f' g' = g' refl

pub when_true : {A : Type 0} {b : Bool} (f g : Unit {0} → A) → b ≡ true → when b f g ≡ f tt
when_true {b = true} f g e = refl
when_true {b = false} f g e = absurd cc

pub when_false : {A : Type 0} {b : Bool} (f g : Unit {0} → A) → b ≡ false → when b f g ≡ g tt
when_false {b = true} f g e = absurd cc
when_false {b = false} f g e = refl

-- a value is its own view
abbrev pub itself : {A : Type 0} → A → A
itself a = a

pub as_seen : {A : Type 0} {Is : A → Tokens → Type 0} {r : Parsed A} → OnOk (λ x. Is x.0 x.1) r →
    OnOk (Seen itself Is) r
as_seen p = weaken (λ x i. record { value = x.0; same = refl; is = i }) p

pub from_seen : {A : Type 0} {Is : A → Tokens → Type 0} {r : Parsed A} → OnOk (Seen itself Is) r →
    OnOk (λ x. Is x.0 x.1) r
from_seen {Is = Is} p = weaken (λ x seen. subst (λ a. Is a x.1) (sym seen.same) seen.is) p

-- each item that is read behind a lawful start is in the grammar
abbrev pub SpellsEach : {A S : Type 0} → (A → S) → (A → Type 0) → GrammarRule A → (S → Tokens → Parsed S) → Type 0
SpellsEach view Fit Item item = (a : _) → Fit a → (ts : Tokens) → OnOk (Seen view (Item a ts)) (item (view a) ts)

-- nothing is asked of a start
abbrev pub Any : {A : Type 0} → A → Type 0
Any a = Unit {0}

-- an item gives a lawful start of the next
abbrev pub KeepsEach : {A : Type 0} → (A → Type 0) → GrammarRule A → Type 0
KeepsEach Fit Item = (a : _) (ts : Tokens) (b : _) (us : Tokens) → Item a ts b us → Fit b

pub keeps_any : {A : Type 0} (Item : GrammarRule A) → KeepsEach Any Item
keeps_any Item a ts b us i = tt {0}

module _ {A S : Type 0} (view : A → S) (Fit : A → Type 0) (Item : GrammarRule A) (goes_on : S → Tokens →
    Bool) (step : S → Tokens → Parsed S)
    (one : (a : A) → Fit a → (ts : Tokens) → goes_on (view a) ts ≡ true →
    OnOk (Seen view (Item a ts)) (step (view a) ts)) (keeps : KeepsEach Fit Item) where
  pub repeat_spells : (n : ℕ) (a : A) → Fit a → (ts : Tokens) →
      OnOk (Seen view (IsRun Item a ts)) (repeat goes_on step n (view a) ts)
  unfolding repeat
  repeat_spells zero a fit ts = done (record { value = a; same = refl; is = over })
  repeat_spells (suc n) a fit ts = when_choose _ _ (goes_on (view a) ts)
      (λ e. and_then (one a fit ts e) (λ x seen.
      subst (λ s. OnOk (Seen view (IsRun Item a ts)) (repeat goes_on step n s x.1)) (sym seen.same)
      (weaken (λ y others. record { value = others.value; same = others.same; is = more seen.is others.is })
      (repeat_spells n seen.value (keeps _ _ _ _ seen.is) x.1))))
      (λ e. done (record { value = a; same = refl; is = over }))

  -- with turns enough, nothing goes on behind what was read
  pub repeat_ends : ((a : A) (ts : Tokens) (b : A) (us : Tokens) → Item a ts b us → length us < length ts) →
      (n : ℕ) (a : A) → Fit a → (ts : Tokens) → length ts < n →
      OnOk (λ y. goes_on y.0 y.1 ≡ false) (repeat goes_on step n (view a) ts)
  unfolding repeat
  repeat_ends shorter zero a fit ts lt = absurd (omega arith)
  repeat_ends shorter (suc n) a fit ts lt = when_choose _ _ (goes_on (view a) ts)
      (λ e. and_then (one a fit ts e) (λ x seen.
      let less = shorter _ _ _ _ seen.is in
      subst (λ s. OnOk (λ y. goes_on y.0 y.1 ≡ false) (repeat goes_on step n s x.1)) (sym seen.same)
      (repeat_ends shorter n seen.value (keeps _ _ _ _ seen.is) x.1 (omega arith))))
      (λ e. done e)

-- a step reads each item of the grammar, if what stands behind fits
pub record Takes {A S : Type 0} (view : A → S) (Item : GrammarRule A) (goes_on : S → Tokens → Bool) (step : S → Tokens →
    Parsed S) (Fits : Tokens → Type 0) : Type 0 where
  pub one : (a : A) (ts : Tokens) (b : A) (us : Tokens) → Item a ts b us → Fits us → step (view a) ts ≡ Ok (view b, us)
  pub on : (a : A) (ts : Tokens) (b : A) (us : Tokens) → Item a ts b us → goes_on (view a) ts ≡ true
  pub fits : (a : A) (ts : Tokens) (b : A) (us : Tokens) → Item a ts b us → Fits ts
  pub shorter : (a : A) (ts : Tokens) (b : A) (us : Tokens) → Item a ts b us → length us < length ts

module _ {A S : Type 0} (view : A → S) (Item : GrammarRule A) (goes_on : S → Tokens → Bool) (step : S → Tokens →
    Parsed S) (Fits : Tokens → Type 0) (takes : Takes view Item goes_on step Fits) where
  pub run_fits : {a : A} {ts : Tokens} {b : A} {rest : Tokens} → IsRun Item a ts b rest → Fits rest → Fits ts
  run_fits over fit = fit
  run_fits (more item items) fit = takes.fits _ _ _ _ item

  pub repeat_reads : {a : A} {ts : Tokens} {b : A} {rest : Tokens} → IsRun Item a ts b rest → Fits rest →
      goes_on (view b) rest ≡ false
      → (n : ℕ) → length ts < n → repeat goes_on step n (view a) ts ≡ Ok (view b, rest)
  unfolding repeat
  repeat_reads (over {a = a} {ts = ts}) fit off zero lt = refl
  repeat_reads (over {a = a} {ts = ts}) fit off (suc n) lt = when_false _ _ off
  repeat_reads (more {a = a} {b = b} {ts = ts} {us = us} item items) fit off zero lt = absurd (omega arith)
  repeat_reads (more {a = a} {b = b} {ts = ts} {us = us} item items) fit off (suc n) lt =
      let less = takes.shorter a ts b us item in
      when_true _ _ (takes.on a ts b us item)
      ∙ steps _ (takes.one a ts b us item (run_fits items fit)) (repeat_reads items fit off n (omega arith))

-- ---- items with a sign between

module _ {A S : Type 0} (view : A → S) (Fit : A → Type 0) (Item : GrammarRule A) (item : S → Tokens →
    Parsed S) (spells : SpellsEach view Fit Item item) (keeps : KeepsEach Fit Item) where
  pub behind_spells : (head : Head) → (head ==ₕ heads.End) ≡ false → (a : A) → Fit a → (ts : Tokens) →
      stands_next head (view a) ts ≡ true → OnOk (Seen view (IsBehind head Item a ts)) (behind item (view a) ts)
  behind_spells head some a fit ts e =
      let t = next_is ts head (same_head _ _ e) some in
      weaken (λ x seen. record {
        value = seen.value;
        same = seen.same;
        is = record { behind = drop 1 ts; sign = mark t.1; item = seen.is };
      }) (spells a fit (drop 1 ts))

  pub many_spells : (head : Head) → (head ==ₕ heads.End) ≡ false →
      SpellsEach view Fit (IsRun (IsBehind head Item)) (λ s ts. repeated (stands_next head) (behind item) s ts)
  many_spells head some a fit ts =
      repeat_spells view Fit (IsBehind head Item) (stands_next head) (behind item) (behind_spells head some)
      (λ a ts b us i. keeps a i.behind b us i.item) (suc (length ts)) a fit ts

  pub separated_spells : (head : Head) → (head ==ₕ heads.End) ≡ false →
      SpellsEach view Fit (IsSeparated head Item) (separated head item)
  unfolding separated
  separated_spells head some a fit ts =
      and_then (spells a fit ts) (λ x first.
      subst (λ s. OnOk (Seen view (IsSeparated head Item a ts))
      (repeat (stands_next head) (behind item) (suc (length x.1)) s x.1)) (sym first.same)
      (weaken (λ y others. record {
        value = others.value;
        same = others.same;
        is = record { between = first.value; behind = x.1; first = first.is; others = others.is };
      })
      (many_spells head some first.value (keeps _ _ _ _ first.is) x.1)))

  pub listed_spells : (end : ℕ) → SpellsEach view Fit (IsListed Item) (λ s ts. listed item end s ts)
  unfolding listed
  listed_spells end a fit ts =
      and_then (separated_spells heads.Comma refl a fit ts) (λ x items.
      and_then (want_spells end heads.Close x.1) (λ c n.
      done (record {
        value = items.value;
        same = items.same;
        is = record { behind = x.1; items = items.is; close = mark n };
      })))

module _ {A S : Type 0} (view : A → S) (Item : GrammarRule A) (item : S → Tokens → Parsed S) (Fits : Tokens → Type 0)
    (reads : (a : A) (ts : Tokens) (b : A) (us : Tokens) → Item a ts b us → Fits us →
    item (view a) ts ≡ Ok (view b, us))
    (shorter : (a : A) (ts : Tokens) (b : A) (us : Tokens) → Item a ts b us → length us < length ts) where
  behind_takes : (head : Head) → ((ts : Tokens) (t : Lexeme) (us : Tokens) → IsNext head ts t us → Fits ts) →
      Takes view (IsBehind head Item) (stands_next head) (behind item) Fits
  behind_takes head fit = record {
    one = λ a ts b us i fits. ap (item (view a)) (behind_is i.sign.next) ∙ reads a i.behind b us i.item fits;
    on = λ a ts b us i. is_next i.sign.next;
    fits = λ a ts b us i. fit ts i.sign.token i.behind i.sign.next;
    shorter = λ a ts b us i. let less = next_shorter i.sign.next in let less' = shorter a i.behind b us i.item in
        omega arith;
  }

  pub many_reads : (head : Head) → ((ts : Tokens) (t : Lexeme) (us : Tokens) → IsNext head ts t us → Fits ts)
      → {a : A} {ts : Tokens} {b : A} {rest : Tokens} → IsRun (IsBehind head Item) a ts b rest → Fits rest →
      (next_head rest ==ₕ head) ≡ false → repeated (stands_next head) (behind item) (view a) ts ≡ Ok (view b, rest)
  many_reads head fit {ts = ts} i fits off =
      repeat_reads view (IsBehind head Item) (stands_next head) (behind item) Fits (behind_takes head fit) i fits off
      (suc (length ts)) (omega arith)

  pub many_fits : (head : Head) → ((ts : Tokens) (t : Lexeme) (us : Tokens) → IsNext head ts t us → Fits ts) →
      {a : A} {ts : Tokens} {b : A} {rest : Tokens} → IsRun (IsBehind head Item) a ts b rest → Fits rest → Fits ts
  many_fits head fit i fits =
      run_fits view (IsBehind head Item) (stands_next head) (behind item) Fits (behind_takes head fit) i fits

  pub separated_reads : (head : Head) → ((ts : Tokens) (t : Lexeme) (us : Tokens) → IsNext head ts t us → Fits ts)
      → {a : A} {ts : Tokens} {b : A} {rest : Tokens} → IsSeparated head Item a ts b rest → Fits rest →
      (next_head rest ==ₕ head) ≡ false → separated head item (view a) ts ≡ Ok (view b, rest)
  unfolding separated
  separated_reads head fit {a} {ts} i fits off =
      steps _ (reads a ts i.between i.behind i.first
      (run_fits view (IsBehind head Item) (stands_next head) (behind item) Fits
      (behind_takes head fit) i.others fits))
      (repeat_reads view (IsBehind head Item) (stands_next head) (behind item) Fits
      (behind_takes head fit) i.others fits off (suc (length i.behind)) (omega arith))

  pub listed_reads : (end : ℕ) → ((ts : Tokens) (t : Lexeme) (us : Tokens) → IsNext heads.Comma ts t us → Fits ts) →
      ((ts : Tokens) (t : Lexeme) (us : Tokens) → IsNext heads.Close ts t us → Fits ts)
      → {a : A} {ts : Tokens} {b : A} {rest : Tokens} → IsListed Item a ts b rest →
      listed item end (view a) ts ≡ Ok (view b, rest)
  unfolding listed
  listed_reads end comma close i =
      steps _ (separated_reads heads.Comma comma i.items (close _ _ _ i.close.next)
      (not_next i.close.next heads.Comma refl)) (steps _ (want_reads end i.close.next) refl)

-- what is behind a list is shorter
module _ {A : Type 0} (Item : GrammarRule A) (shorter : (a : A) (ts : Tokens) (b : A) (us : Tokens) → Item a ts b us →
    length us < length ts) where
  pub run_shorter : {a : A} {ts : Tokens} {b : A} {rest : Tokens} → IsRun Item a ts b rest → length rest ≤ length ts
  run_shorter over = omega arith
  run_shorter (more item items) = let less = shorter _ _ _ _ item in let less' = run_shorter items in omega arith

module _ {A : Type 0} (head : Head) (Item : GrammarRule A) (shorter : (a : A) (ts : Tokens) (b : A) (us : Tokens) →
    Item a ts b us → length us < length ts) where
  behind_shorter : (a : A) (ts : Tokens) (b : A) (us : Tokens) → IsBehind head Item a ts b us → length us < length ts
  behind_shorter a ts b us i =
      let less = next_shorter i.sign.next in let less' = shorter a i.behind b us i.item in omega arith

  pub behind_run_shorter : {a : A} {ts : Tokens} {b : A} {rest : Tokens} → IsRun (IsBehind head Item) a ts b rest →
      length rest ≤ length ts
  behind_run_shorter i = run_shorter (IsBehind head Item) behind_shorter i

  pub separated_shorter : {a : A} {ts : Tokens} {b : A} {rest : Tokens} → IsSeparated head Item a ts b rest →
      length rest < length ts
  separated_shorter {a} {ts} i =
      let less = shorter a ts i.between i.behind i.first in
      let less' = run_shorter (IsBehind head Item) behind_shorter i.others in
      omega arith

pub listed_shorter : {A : Type 0} (Item : GrammarRule A) →
    ((a : A) (ts : Tokens) (b : A) (us : Tokens) → Item a ts b us → length us < length ts)
    → {a : A} {ts : Tokens} {b : A} {rest : Tokens} → IsListed Item a ts b rest → length rest < length ts
listed_shorter Item shorter i =
    let less = separated_shorter heads.Comma Item shorter i.items in
    let less' = next_shorter i.close.next in
    omega arith

-- what each item keeps, a list keeps
module _ {A : Type 0} (Item : GrammarRule A) (P : A → Type 0) (keeps : (a : A) (ts : Tokens) (b : A) (us : Tokens) →
    Item a ts b us → P a → P b) where
  run_keeps : {head : Head} {a : A} {ts : Tokens} {b : A} {rest : Tokens} → IsRun (IsBehind head Item) a ts b rest →
      P a → P b
  run_keeps over p = p
  run_keeps (more item items) p = run_keeps items (keeps _ _ _ _ item.item p)

  pub listed_keeps : {a : A} {ts : Tokens} {b : A} {rest : Tokens} → IsListed Item a ts b rest → P a → P b
  listed_keeps i p = run_keeps i.items.others (keeps _ _ _ _ i.items.first p)

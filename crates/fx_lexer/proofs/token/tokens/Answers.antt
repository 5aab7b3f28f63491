use Rattle.std.proofs.Common.{◌≡◌, Ok, Err, inl, sym, ap, ◌∙◌, refl, arith, rules}
use Rattle.fx_lexer.specs.Tokens.{first_item}
use Rattle.fx_lexer.proofs.Items.{IsItem, not_empty, is_empty, border_of, shorter}
use Rattle.fx_lexer.proofs.Fronts.{item_is}
use Rattle.fx_lexer.proofs.Lexemes.{adds, passes, refused, done, at_front}
use Rattle.fx_lexer.proofs.token.tokens.Goals.{In-Ok, in-Some+in_ok-push-in-Some, in-None}
use Rattle.fx_lexer.proofs.token.tokens.Goals as goal

-- the item in front of the rest
first : (c : In-Ok) → first_item c.loop-rest.rest.now ≡ Ok c.in-Ok.item
first c = ap first_item (sym c.as_bytes.ensures.value) ∙ sym c.first_item.ensures ∙ c.in-Ok.is

-- its bytes
bytes : (c : In-Ok) → IsItem c.loop-rest.rest.now c.in-Ok.item.len
bytes c = item_is c.loop-rest.rest.now c.in-Ok.item (not_empty _ c.loop-rest-test.ensures) (first c)

pub returns-in-Err-clause-value : goal.returns-in-Err-clause-value
returns-in-Err-clause-value c =
    let e : first_item c.loop-rest.rest.now ≡ Err c.in-Err.kind = ap first_item (sym c.as_bytes.ensures.value)
    ∙ sym c.first_item.ensures ∙ c.in-Err.is in
    let fault = refused c.loop-rest.invariant.read (not_empty _ c.loop-rest-test.ensures) e in
    inl (rw (c.at.ensures, c.place_of.ensures) fault)

pub split_at-requires : goal.split_at-requires
split_at-requires c = border_of _ _ c.loop-rest.invariant.is_text (bytes (goal.at.split_at-requires c).In-Ok)

pub loop-rest-smaller : goal.loop-rest-smaller
loop-rest-smaller c = rw c.split_at.ensures.back (shorter (bytes (goal.at.loop-rest-smaller c).In-Ok))

pub loop-rest-preserved : goal.loop-rest-preserved
loop-rest-preserved c =
    let e = first (goal.at.loop-rest-preserved c).In-Ok in
    let i = bytes (goal.at.loop-rest-preserved c).In-Ok in
    record {
      is_text = search rules;
      read = rw c.split_at.ensures.back (elim c.match-item.branch [
        | in-Some+in_ok-push-in-Some w ↦
            adds c.loop-rest.invariant.read e i _ w.in-Some.is c.split_at.ensures.front refl refl
            (ap (λ v. v.items) w.found-is ∙ w.in_ok-push-in-Some.ensures.items) w.fresh-is
        | in-None w ↦
            passes c.loop-rest.invariant.read e i w.in-None.is (ap (λ v. v.items) w.found-is)
            (w.as_bytes-in-None.ensures.value ∙ c.split_at.ensures.front) (w.fresh-is ∙ w.is_fresh_behind-fresh.ensures)
      ]);
    }

pub returns-clause-value : goal.returns-clause-value
returns-clause-value c = done c.loop-rest.invariant.read (is_empty _ c.loop-rest-test.ensures)

pub loop-rest-init : goal.loop-rest-init
loop-rest-init c = record {
  is_text = search rules;
  read = record {
    place = omega arith;
    few = omega arith;
    on = rw c.new-found.ensures.items (at_front c.args.text.now);
  };
}

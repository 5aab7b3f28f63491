use Rattle.std.proofs.Common.{◌≡◌, ◌++◌, ◌∷◌, [], List, map, ℕ, append_assoc, ap, sym, subst, ◌∙◌}
use Rattle.std.specs.List.{All}
use Rattle.std.specs.Vec.Iter.{into_iter_items}
use Rattle.std.proofs.lemmas.List.{map-append}
use Rattle.std.proofs.lemmas.List.Elements.{All-tail}
use Rattle.fx_model.specs.Names.{IsName}
use Rattle.fx_model.specs.Function as model
use Rattle.fx_expr.specs.TreeOf.{tree}
use Rattle.fx_expr.specs.Parts as parts
use Rattle.fx_parser.specs.declared.body.Temp.{Temp}
use Rattle.fx_parser.specs.Views.{temp_value}
use Rattle.fx_parser.proofs.owned.owned_temps.Goals as goal

abbrev HasName : Temp → Type 0
HasName t = IsName t.name.now

shift : (xs ys whole : List model.Temp) (x : model.Temp) → xs ++ x ∷ ys ≡ whole → xs ++ x ∷ [] ++ ys ≡ whole
shift xs ys whole x e = append_assoc xs (x ∷ []) ys ∙ e

pub loop-temp-preserved : goal.loop-temp-preserved
loop-temp-preserved c =
    let steps : into_iter_items c.loop-temp.temp-iterator ≡ c.in-Some.temp ∷ into_iter_items c.next.new.self =
    c.in-Some.ensures.steps.0 in
    let named = subst (All HasName) steps c.loop-temp.invariant.2 in
    let same : c.in_ok-name.name ≡ c.in-Some.temp.name.now = cc (c.in_ok-name.ensures) in
    let pushed : map parts.temp_of c.push.new.self.items ≡ map parts.temp_of c.loop-temp.owned.items
    ++ temp_value c.in-Some.temp ∷ [] =
    ap (map parts.temp_of) c.in_ok-push.ensures.items ∙ map-append parts.temp_of c.loop-temp.owned.items _
    ∙ ap (λ (n : List ℕ). map parts.temp_of c.loop-temp.owned.items ++ record {
      name = n;
      tree = tree c.in-Some.temp.expr;
    } ∷ []) same in
    let before : map parts.temp_of c.loop-temp.owned.items ++ temp_value c.in-Some.temp
    ∷ map temp_value (into_iter_items c.next.new.self) ≡ map temp_value c.args.temps.items =
    ap (λ (ts : List Temp). map parts.temp_of c.loop-temp.owned.items ++ map temp_value ts) (sym steps)
    ∙ c.loop-temp.invariant.3 in (
      tt {0},
      tt {0},
      All-tail HasName c.in-Some.temp (into_iter_items c.next.new.self) named,
      ap (λ (ts : List model.Temp). ts ++ map temp_value (into_iter_items c.next.new.self)) pushed
          ∙ shift _ _ _ _ before,
    )

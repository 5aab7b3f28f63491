use Rattle.std.proofs.Common.{◌≡◌, ◌++◌, ◌∷◌, [], List, ℕ, length, Ok, ap, sym, ◌∙◌, length-append}
use Rattle.std.specs.Borrow.{Bor}
use Rattle.std.proofs.lemmas.List.{map-append}
use Rattle.fx_grammar.specs.Steps.{Text, name_place}
use Rattle.fx_cursor.specs.Texts.{all_texts}
use Rattle.fx_cursor.proofs.Keys.{inserted}
use Rattle.fx_cursor.proofs.names.with_name.Goals as goal

-- the keys, and a new one
more : (old new : List (Bor (List ℕ))) (name : Bor (List ℕ)) (names : List Text) → new ≡ old ++ name ∷ [] →
    all_texts old ≡ names → all_texts new ≡ names ++ name.now ∷ []
more old new name names k v = ap all_texts k ∙ map-append (λ (t : Bor (List ℕ)). t.now) old (name ∷ [])
    ∙ ap (λ (ns : List Text). ns ++ name.now ∷ []) v

pub returns-clause-value : goal.returns-clause-value
returns-clause-value c =
    let k = c.in_ok-insert.ensures.keys
    ∙ inserted c.names.inside.set.keys c.args.name (ap (λ names. name_place names c.args.name.now) c.names.view_is
    ∙ c.requires) in
    ap (λ ns. Ok ns) (sym (more c.names.inside.set.keys c.insert.new.self.keys c.args.name c.args.names k
    c.names.view_is))

pub returns-clause-count : goal.returns-clause-count
returns-clause-count c =
    let k = c.in_ok-insert.ensures.keys
    ∙ inserted c.names.inside.set.keys c.args.name (ap (λ names. name_place names c.args.name.now) c.names.view_is
    ∙ c.requires) in
    ap length (more c.names.inside.set.keys c.insert.new.self.keys c.args.name c.args.names k c.names.view_is)
    ∙ length-append c.args.names (c.args.name.now ∷ [])

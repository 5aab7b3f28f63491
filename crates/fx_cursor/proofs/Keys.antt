-- A set of names is a list of different ones.
use Rattle.std.proofs.Common.{◌≡◌, ℕ, suc, ◌+◌, ◌<◌, ◌≤◌, rules, tests, Bool, true, false, cond, ltb, List, [], ◌∷◌, ◌++◌, length, Some, None, refl, sym, ◌∙◌}
use Rattle.std.specs.Borrow.{Bor}
use Rattle.std.specs.Prelude.{bytes_eq}
use Rattle.std.specs.List.{position, position_or_len, list_any}
use Rattle.std.proofs.lemmas.List.{length-map}
use Rattle.std.proofs.lemmas.Slice.Eq.{bytes_eq-Decides}
use Rattle.indexmap.specs.IndexSet.{insert_key}
use Rattle.fx_grammar.specs.Steps.{Text, name_place}
use Rattle.fx_cursor.specs.Texts.{all_texts}

turned : (a b : Text) → bytes_eq a b ≡ bytes_eq b a
turned a b = by (bytes_eq a b) (bytes_eq b a) refl refl where
  by : (x y : Bool) → bytes_eq a b ≡ x → bytes_eq b a ≡ y → x ≡ y
  by true true e f = refl
  by false false e f = refl
  by true false e f =
      let t : bytes_eq b a ≡ true = (bytes_eq-Decides b a).1 (sym ((bytes_eq-Decides a b).0 e)) in sym t ∙ f
  by false true e f =
      let t : bytes_eq a b ≡ true = (bytes_eq-Decides a b).1 (sym ((bytes_eq-Decides b a).0 f)) in sym e ∙ t

len_is : (keys : List (Bor (List ℕ))) (text : Text) →
    position_or_len (λ k. bytes_eq text k.now) keys ≡ position_or_len (λ n. bytes_eq n text) (all_texts keys)
len_is [] text = refl
len_is (k ∷ keys) text = rw (turned text k.now, len_is keys text) refl

pub place_is : (keys : List (Bor (List ℕ))) (text : Text) →
    position (λ k. bytes_eq text k.now) keys ≡ name_place (all_texts keys) text
place_is keys text =
    let n : length (all_texts keys) ≡ length keys = simp length-map refl in rw (len_is keys text, n) refl

pub shift : (p n : ℕ) → ltb p n ≡ ltb (1 + p) (suc n)
shift p n = by (ltb p n) refl where
  by : (b : Bool) → ltb p n ≡ b → ltb p n ≡ ltb (1 + p) (suc n)
  by true e =
      let lt : p < n = search (rules, tests) in let t : ltb (1 + p) (suc n) ≡ true = search (rules, tests) in e ∙ sym t
  by false e =
      let le : n ≤ p = search (rules, tests) in let t : ltb (1 + p) (suc n) ≡ false = search (rules, tests) in e ∙ sym t

pub some : (n : ℕ) → true ≡ ltb 0 (suc n)
some n = let t : ltb 0 (suc n) ≡ true = search (rules, tests) in sym t

any_is : (keys : List (Bor (List ℕ))) (text : Text) →
    list_any (λ k. bytes_eq text k.now) keys ≡ ltb (position_or_len (λ k. bytes_eq text k.now) keys) (length keys)
any_is [] text = refl
any_is (k ∷ keys) text = by (bytes_eq text k.now) refl (any_is keys text) where
  by : (b : Bool) → bytes_eq text k.now ≡ b →
      list_any (λ k. bytes_eq text k.now) keys ≡ ltb (position_or_len (λ k. bytes_eq text k.now) keys) (length keys) →
      list_any (λ k. bytes_eq text k.now) (k ∷ keys)
      ≡ ltb (position_or_len (λ k. bytes_eq text k.now) (k ∷ keys)) (length (k ∷ keys))
  by true e more = rw e (some (length keys))
  by false e more = rw e (more ∙ shift _ _)

none_is : (b : Bool) (n : ℕ) → cond b (Some n) None ≡ None → b ≡ false
none_is true n e = absurd cc
none_is false n e = refl

pub inserted : (keys : List (Bor (List ℕ))) (name : Bor (List ℕ)) → name_place (all_texts keys) name.now ≡ None →
    insert_key (λ a b. bytes_eq a.now b.now) keys name ≡ keys ++ name ∷ []
inserted keys name e =
    let absent : list_any (λ k. bytes_eq name.now k.now) keys ≡ false = any_is keys name.now
    ∙ none_is _ _ (place_is keys name.now ∙ e) in
    rw absent refl

-- Lemmas on what a shelf is asked for while a file is read.
use Rattle.std.proofs.Common.{◌≡◌, ℕ, ◌+◌, ◌<◌, ◌≤◌, List, [], ◌∷◌, ◌++◌, refl, sym, ap, subst, ◌∙◌, append_assoc, append-nil, get_or, inl, inr, arith}
use Rattle.std.specs.Prelude.{All}
use Rattle.std.specs.List.{AllPairs}
use Rattle.std.proofs.lemmas.List.Elements.{All-append, All-cons, All-head, All-nil, All-tail}
use Rattle.std.proofs.lemmas.List.Quantifiers.{all_pairs_push}
use Rattle.fx_base.specs.Moments.{Notes}
use Rattle.fx_base.specs.Requests.{Request, AsksInOrder}

-- what was asked for since is this file, in order, at places below n
pub record AsksBelow (name : List ℕ) (n : ℕ) (old new : List Request) : Type 0 where
  pub order : AsksInOrder name old new
  pub below : All (λ r. r.at < n) order.since

-- nothing was asked for since
pub none_asked : (name : List ℕ) (n : ℕ) (old : List Request) → AsksBelow name n old old
none_asked name n old = record {
  order = record {
    since = [];
    noted = sym (append-nil old);
    alone = All-nil (λ r. r.name ≡ name);
    rising = λ i j d first within. absurd (omega (arith, within));
  };
  below = All-nil (λ r. r.at < n);
}

-- places below n are below m
raised : (n m : ℕ) (rs : List Request) → n ≤ m → All (λ r. r.at < n) rs → All (λ r. r.at < m) rs
raised n m [] most all = All-nil (λ r. r.at < m)
raised n m (r ∷ rs) most all =
    All-cons (λ r. r.at < m) r rs
    (let first : r.at < n = All-head (λ r. r.at < n) r rs all in omega (arith, first, most))
    (raised n m rs most (All-tail (λ r. r.at < n) r rs all))

-- the file is asked for once more, at n
pub asked_at : (name : List ℕ) (n m at : ℕ) (old now new : List Request) → at ≡ n → n < m →
    Notes (record { name = name; at = at }) now new → AsksBelow name n old now → AsksBelow name m old new
asked_at name n m at old now new here more (inl same) so = record {
  order = record {
    since = so.order.since;
    noted = same ∙ so.order.noted;
    alone = so.order.alone;
    rising = so.order.rising;
  };
  below = raised n m so.order.since (omega (arith, more)) so.below;
}
asked_at name n m at old now new here more (inr noted) so =
    let r : Request = record { name = name; at = at } in
    record {
      order = record {
        since = so.order.since ++ r ∷ [];
        noted = noted ∙ ap (λ t. t ++ r ∷ []) so.order.noted ∙ append_assoc old so.order.since (r ∷ []);
        alone = All-append (λ r. r.name ≡ name) so.order.since (r ∷ []) so.order.alone
            (All-cons (λ r. r.name ≡ name) r [] refl (All-nil (λ r. r.name ≡ name)));
        rising = all_pairs_push (λ r later. r.at < later.at) so.order.since r so.order.rising
            (λ k d within. subst (λ i. (get_or so.order.since k d).at < i) (sym here) (so.below k d within));
      };
      below =
          All-append (λ r. r.at < m) so.order.since (r ∷ []) (raised n m so.order.since (omega (arith, more)) so.below)
          (All-cons (λ r. r.at < m) r [] (subst (λ i. i < m) (sym here) more) (All-nil (λ r. r.at < m)));
    }

-- so its places stay in order
pub asked_last : (name : List ℕ) (n at : ℕ) (old now new : List Request) → at ≡ n →
    Notes (record { name = name; at = at }) now new → AsksBelow name n old now → AsksInOrder name old new
asked_last name n at old now new here noted so =
    (asked_at name n (n + 1) at old now new here (omega arith) noted so).order

-- Conditions without a fault: single ones, lists, and those of a node that has no form.
use Rattle.std.proofs.Common.{◌≡◌, ℕ, zero, suc, ◌<◌, ◌==◌, ltb, Bool, true, false, ◌&&◌, if◌then◌else◌, List, [], ◌∷◌, ◌++◌, Option, Some, None, ℤ, pos, refl, ap, ◌∙◌, arith}
use Rattle.std.proofs.Common.{int_eq}
use Rattle.std.proofs.lemmas.Int.{ints}
use Rattle.std.specs.Str.{bytes_eq}
use Rattle.std.proofs.lemmas.Slice.Eq.{bytes_eq-Decides}
use Rattle.fx_model.specs.Tree.{at}
use Rattle.fx_model.specs.Function.{Function}
use Rattle.fx_model.specs.Machine.{Code}
use Rattle.fx_model.specs.Nodes.{Node}
use Rattle.fx_inequalities.specs.Formula.{span}
use Rattle.fx_inequalities.specs.Claim.{Claim}
use Rattle.fx_inequalities.specs.Certificate.{Certificate, NodeLine, Form, no_line}
use Rattle.fx_inequalities.specs.Affine.{form_of}
use Rattle.fx_inequalities.specs.Condition as condition
use Rattle.fx_inequalities.specs.Condition.{Condition, Kind, Part, OfNode, fault_of, first_fault_of, each_index}
use Rattle.fx_inequalities.specs.NodeConditions.{same_shape, same_point, state_point, shape_conditions, node_conditions, variables, form_claims, divisor_claims, plain_range_claims, plain_error_claims, range_claims, error_claims, word_claims}
use Rattle.fx_plan_laws.proofs.Claims.{AreMet, none_met}

-- ---- single ones
pub faultless : (kind : Kind) (part : Part) (k : ℕ) (test : Bool) (claims : List Claim) → test ≡ true → AreMet claims →
    fault_of (record { kind = kind; part = part; index = k; test = test; claims = claims }) ≡ None
faultless kind part k test claims e h = let p = h.fits in let q = h.holds in rw (p, e, q) refl

-- tests on equal things
pub same_count : (m k : ℕ) → m ≡ k → (m == k) ≡ true
same_count m k e = grind (arith, e)

pub same_whole : (p q : ℤ) → p ≡ q → int_eq p q ≡ true
same_whole p q e = grind (arith, ints, e)

pub same_name : (name : List ℕ) → bytes_eq name name ≡ true
same_name name = (bytes_eq-Decides name name).1 refl

-- ---- lists
pub none_append : (xs ys : List Condition) → first_fault_of xs ≡ None → first_fault_of ys ≡ None →
    first_fault_of (xs ++ ys) ≡ None
none_append [] ys p q = q
none_append (x ∷ xs) ys p q = by (fault_of x) refl p (λ r. none_append xs ys r q)
  where
    by : (f : Option condition.Fault) → fault_of x ≡ f → condition.first_some f (first_fault_of xs) ≡ None →
        (first_fault_of xs ≡ None → first_fault_of (xs ++ ys) ≡ None) →
        condition.first_some (fault_of x) (first_fault_of (xs ++ ys)) ≡ None
    by None e p more =
        ap (λ (f : Option condition.Fault). condition.first_some f (first_fault_of (xs ++ ys))) e ∙ more p
    by (Some f) e p more = absurd cc

pub one_none : (c : Condition) → fault_of c ≡ None → first_fault_of (c ∷ []) ≡ None
one_none c e = ap (λ (f : Option condition.Fault). condition.first_some f None) e

-- a condition that is a test alone
abbrev pub test_of : Kind → Part → ℕ → Bool → Condition
test_of kind part k test = record { kind = kind; part = part; index = k; test = test; claims = [] }

test_none : (kind : Kind) (part : Part) (k : ℕ) (test : Bool) → test ≡ true →
    first_fault_of (test_of kind part k test ∷ []) ≡ None
test_none kind part k test e = one_none (test_of kind part k test) (faultless kind part k test [] e none_met)

-- before other conditions, and behind them
pub test_first : (kind : Kind) (part : Part) (k : ℕ) (test : Bool) (xs : List Condition) → test ≡ true →
    first_fault_of xs ≡ None → first_fault_of (test_of kind part k test ∷ xs) ≡ None
test_first kind part k test xs e h = none_append (test_of kind part k test ∷ []) xs (test_none kind part k test e) h

pub test_last : (kind : Kind) (part : Part) (k : ℕ) (test : Bool) (xs : List Condition) → test ≡ true →
    first_fault_of xs ≡ None → first_fault_of (xs ++ test_of kind part k test ∷ []) ≡ None
test_last kind part k test xs e h = none_append xs (test_of kind part k test ∷ []) h (test_none kind part k test e)

-- one for each index
pub indexes_none : (n : ℕ) (f : ℕ → Condition) → ((j : ℕ) → j < n → fault_of (f j) ≡ None) →
    first_fault_of (each_index n f) ≡ None
indexes_none zero f h = refl
indexes_none (suc n) f h =
    none_append (each_index n f) (f n ∷ []) (indexes_none n f (λ j lt. h j (omega (arith, lt))))
    (one_none (f n) (h n (omega arith)))

-- ---- Form, Divisor, Range, Error and WordTooSmall of a node
-- the definition's five, at a form, a line and a point
abbrev conditions_at : Function → ℕ → Certificate → ℕ → Node → Code → Option Form → NodeLine → ℤ → List Condition
conditions_at fn w cert n node c form l f =
    record {
      kind = condition.Form;
      part = OfNode;
      index = n;
      test = true;
      claims = form_claims (variables fn) cert.lines l node c f form;
    } ∷
    record {
      kind = condition.Divisor;
      part = OfNode;
      index = n;
      test = true;
      claims = divisor_claims cert.lines node;
    } ∷
    record {
      kind = condition.Range;
      part = OfNode;
      index = n;
      test = true;
      claims = range_claims fn cert l node form;
    } ∷
    record {
      kind = condition.Error;
      part = OfNode;
      index = n;
      test = true;
      claims = error_claims fn cert l node c f form;
    } ∷
    record {
      kind = condition.WordTooSmall;
      part = OfNode;
      index = n;
      test = true;
      claims = word_claims w f (span l.range) (span l.error);
    } ∷ []

-- a condition of node k
abbrev at_node : Kind → ℕ → Bool → List Claim → Condition
at_node kind k test claims = record { kind = kind; part = OfNode; index = k; test = test; claims = claims }

five : (a b c d e : Condition) → fault_of a ≡ None → fault_of b ≡ None → fault_of c ≡ None → fault_of d ≡ None →
    fault_of e ≡ None → first_fault_of (a ∷ b ∷ c ∷ d ∷ e ∷ []) ≡ None
five a b c d e p q r s t = rw (p, q, r, s, t) refl

no_form : (v k : ℕ) (ls : List NodeLine) (l : NodeLine) → at no_line ls k ≡ l → l.form ≡ None →
    form_of v ls k ≡ None
no_form v k ls l e none = by (ltb k v)
  where
    by : (t : Bool) → (if t then None else (at no_line ls k).form) ≡ None
    by true = refl
    by false = ap (λ (x : NodeLine). x.form) e ∙ none

-- of a node whose line l has no form
pub node_met : (n : ℕ) (fn : Function) (cert : Certificate) (ps : List ℤ) (k : ℕ) (node : Node) (c : Code)
    (l : NodeLine) (f : ℤ) → at no_line cert.lines k ≡ l → l.form ≡ None → at (pos 0) ps k ≡ f →
    AreMet (divisor_claims cert.lines node) → AreMet (plain_range_claims fn cert node (span l.range)) →
    AreMet (plain_error_claims fn cert node c f (span l.range) (span l.error)) →
    AreMet (word_claims n f (span l.range) (span l.error)) →
    first_fault_of (node_conditions fn n ps cert k node c) ≡ None
node_met n fn cert ps k node c l f line none point divisor range error word =
    let form = no_form (variables fn) k cert.lines l line none in
    (λ i. first_fault_of (conditions_at fn n cert k node c (form i) (line i) (point i)))
    ∙ five (at_node condition.Form k true []) (at_node condition.Divisor k true (divisor_claims cert.lines node))
    (at_node condition.Range k true (plain_range_claims fn cert node (span l.range)))
    (at_node condition.Error k true (plain_error_claims fn cert node c f (span l.range) (span l.error)))
    (at_node condition.WordTooSmall k true (word_claims n f (span l.range) (span l.error)))
    (faultless condition.Form OfNode k true [] refl none_met)
    (faultless condition.Divisor OfNode k true (divisor_claims cert.lines node) refl divisor)
    (faultless condition.Range OfNode k true (plain_range_claims fn cert node (span l.range)) refl range)
    (faultless condition.Error OfNode k true
    (plain_error_claims fn cert node c f (span l.range) (span l.error)) refl error)
    (faultless condition.WordTooSmall OfNode k true (word_claims n f (span l.range) (span l.error)) refl word)

-- ---- Shape and Shift of a node
shape_and_shift : (a b : Condition) → fault_of a ≡ None → fault_of b ≡ None → first_fault_of (a ∷ b ∷ []) ≡ None
shape_and_shift a b p q = rw (p, q) refl

pub shape_met : (i next k : ℕ) (ps : List ℤ) (node : Node) (c : Code) → same_shape node c ≡ true →
    same_point ps c ≡ true → state_point i next ps k ≡ true →
    first_fault_of (shape_conditions i next ps k node c) ≡ None
shape_met i next k ps node c shape same state =
    shape_and_shift (at_node condition.Shape k (same_shape node c) [])
    (at_node condition.Shift k (same_point ps c && state_point i next ps k) [])
    (faultless condition.Shape OfNode k (same_shape node c) [] shape none_met)
    (faultless condition.Shift OfNode k (same_point ps c &&
    state_point i next ps k) [] (rw (same, state) refl) none_met)

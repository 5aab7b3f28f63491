-- The whole text, of its pieces.
use Rattle.std.proofs.Common.{◌≡◌, ℕ, ℤ, List, [], ◌++◌, map, sym, ap, ◌∙◌, codes, append_assoc}
use Rattle.fx_model.specs.Machine.{Program, start_words}
use Rattle.fx_program.specs.ProgramView.{program_with}
use Rattle.fx_program.specs.CodeView.{code_of}
use Rattle.fx_program.specs.declared.code.Code as program
use Rattle.fx_c99.specs.CText.{helpers_text, reset_text, step_head, body_text, step_text, top_text, front_text}
use Rattle.fx_c99.specs.OfProgram.{c_lets_from, c_routine_of, c_text_of}

pub three_pieces : (d e f old a b new : List ℕ) → a ≡ old ++ d → b ≡ a ++ e → new ≡ b ++ f → new ≡ old ++ (d ++ (e ++ f))
three_pieces d e f old a b new p q r =
    let joined : ((old ++ d) ++ e) ++ f ≡ old ++ (d ++ (e ++ f)) = simp append_assoc in
    r ∙ ap (λ t. t ++ f) (q ∙ ap (λ t. t ++ e) p) ∙ joined

-- what stands above the step, of a program with this inside
pub front_is : (q : Program) (version width inputs states outputs : ℕ) (name : List ℕ) (cs : List program.Code)
    (ns title : List ℕ) (starts : List ℤ) (old a b new : List ℕ) →
    program_with version width name inputs states outputs cs ≡ q → title ≡ name →
    a ≡ old ++ top_text title width → b ≡ a ++ helpers_text width (c_lets_from width 0 ns (map code_of cs)) →
    new ≡ b ++ reset_text title width states starts
    → new ≡ old ++ front_text (c_routine_of q ns) starts
front_is q version width inputs states outputs name cs ns title starts old a b new view titled pa pb pn =
    let helpers = helpers_text width (c_lets_from width 0 ns (map code_of cs)) in
    let reset : List ℕ → List ℕ = λ t. reset_text t width states starts in
    three_pieces (top_text title width) helpers (reset title) old a b new pa pb pn
    ∙ ap (λ (t : List ℕ). old ++ (top_text t width ++ (helpers ++ reset t))) titled
    ∙ ap (λ (r : Program). old ++ front_text (c_routine_of r ns) starts) view

six_pieces : (u v w x y z old a b c d e new : List ℕ) → a ≡ old ++ u → b ≡ a ++ v → c ≡ b ++ w → d ≡ c ++ x →
    e ≡ d ++ y → new ≡ e ++ z
    → new ≡ old ++ (u ++ (v ++ (w ++ (x ++ (y ++ z)))))
six_pieces u v w x y z old a b c d e new pa pb pc pd pe pn =
    let later : new ≡ b ++ (w ++ (x ++ (y ++ z))) = pn ∙ ap (λ t. t ++ z) (pe ∙ ap (λ t. t ++ y) (pd ∙ ap (λ t. t ++ x) pc))
    ∙ (let joined : (((b ++ w) ++ x) ++ y) ++ z ≡ b ++ (w ++ (x ++ (y ++ z))) = simp append_assoc in joined) in
    three_pieces u v (w ++ (x ++ (y ++ z))) old a b new pa pb later

-- the step, declared and defined
pub step_is : (q : Program) (version width inputs states outputs : ℕ) (name : List ℕ) (cs : List program.Code)
    (ns title : List ℕ) (old a b c d e new : List ℕ) →
    program_with version width name inputs states outputs cs ≡ q → title ≡ name →
    a ≡ old ++ step_head title width states inputs outputs → b ≡ a ++ codes ";\n\n" →
    c ≡ b ++ step_head title width states inputs outputs → d ≡ c ++ codes " {\n" →
    e ≡ d ++ body_text (c_routine_of q ns) → new ≡ e ++ codes "}\n"
    → new ≡ old ++ step_text (c_routine_of q ns)
step_is q version width inputs states outputs name cs ns title old a b c d e new view titled pa pb pc pd pe pn =
    let head : List ℕ → List ℕ = λ t. step_head t width states inputs outputs in
    let body : Program → List ℕ = λ r. body_text (c_routine_of r ns) in
    let p = program_with version width name inputs states outputs cs in
    let pe' : e ≡ d ++ body p = pe ∙ ap (λ (r : Program). d ++ body r) (sym view) in
    six_pieces (head title) (codes ";\n\n") (head title) (codes " {\n") (body p) (codes "}\n") old a b c d e new
    pa pb pc pd pe' pn
    ∙ ap (λ (t : List ℕ). old ++ (head t ++ (codes ";\n\n" ++ (head t ++ (codes " {\n" ++ (body p ++ codes "}\n"))))))
    titled
    ∙ ap (λ (r : Program). old ++ step_text (c_routine_of r ns)) view

-- both, one behind the other, from nothing on
pub whole_is : (q : Program) (cs ds : List program.Code) (ns above below start a new : List ℕ) (starts words : List ℤ) →
    map code_of cs ≡ q.codes → ds ≡ cs → above ≡ ns → below ≡ ns → start ≡ [] → words ≡ start_words (map code_of ds) →
    starts ≡ words →
    a ≡ start ++ front_text (c_routine_of q above) starts → new ≡ a ++ step_text (c_routine_of q below)
    → new ≡ c_text_of q ns
whole_is q cs ds ns above below start a new starts words view d f s e w same p r =
    let began : starts ≡ start_words q.codes =
    same ∙ w ∙ ap (λ (es : List program.Code). start_words (map code_of es)) d ∙ ap start_words view in
    r ∙ ap (λ (ws : List ℕ). a ++ step_text (c_routine_of q ws)) s
    ∙ ap (λ (t : List ℕ). t ++ step_text (c_routine_of q ns))
    (p ∙ (λ i. e i ++ front_text (c_routine_of q (f i)) (began i)))

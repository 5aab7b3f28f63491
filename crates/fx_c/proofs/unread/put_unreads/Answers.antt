use Rattle.std.proofs.Common.{◌<◌, ◌&&◌, ◌++◌, ◌∙◌, arith, length, pos, nat_lt, not, false, Bool, [], cond, ap, sym, map, codes, List}
use Rattle.std.proofs.lemmas.List.{get_or_read, take_all}
use Rattle.fx_program.specs.CodeView.{code_of}
use Rattle.fx_program.specs.declared.code.Code.TheVariants.{Input}
use Rattle.fx_program.specs.declared.code.Code as program
use Rattle.fx_statements.specs.RustText.{name_text}
use Rattle.fx_c99.specs.CText.{unreads_text}
use Rattle.fx_c99.specs.OfProgram.{c_lets_from}
use Rattle.fx_c.proofs.Taken.{any_takes_is, unread_more}
use Rattle.fx_c.proofs.unread.put_unreads.Goals as goal

pub loop-name-preserved : goal.loop-name-preserved
loop-name-preserved c n ns =
    let k = c.loop-name.name in let first = c.args.first in let out = c.loop-name.out.items in
    let cs = map code_of c.args.codes.now in
    let within : k < length c.in_ok-taken.taken.items =
    omega (arith, c.in_ok-taken.ensures.length, c.loop-name-test.true) in
    let taken = get_or_read c.in_ok-taken.taken.items k c.index.result.now within c.index.ensures false
    ∙ c.in_ok-taken.ensures.each k c.loop-name-test.true ∙ sym (any_takes_is k n 0 ns cs) in
    unread_more code_of (c_lets_from n 0 ns cs) first n ns c.args.codes.now k (Input 0 (pos 0)) c.args.out.now.items out
    c.put_unread.new.out.items c.loop-name-test.true (c.loop-name.invariant n ns) (c.in_ok-put_unread.ensures
    ∙ ap (λ (b : Bool). out ++ cond (nat_lt k first && not b) (codes "    (void)" ++ (name_text k ++ codes ";\n")) [])
    taken)

pub returns : goal.returns
returns c n ns =
    let ls = c_lets_from n 0 ns (map code_of c.args.codes.now) in
    c.loop-name.invariant n ns ∙ ap (λ (xs : List program.Code). c.args.out.now.items
    ++ unreads_text ls c.args.first (c_lets_from n 0 ns (map code_of xs)))
    (take_all c.loop-name.name c.args.codes.now c.loop-name-test.false)

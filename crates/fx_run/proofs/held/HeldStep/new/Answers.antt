use Rattle.std.proofs.Common.{◌≡◌, length, arith, refl, ap, sym, subst, ◌∙◌, inl}
use Rattle.std.proofs.lemmas.List.{length-replicate}
use Rattle.fx_model.specs.Function.{start_state}
use Rattle.fx_model.specs.Machine.{Program, start_words}
use Rattle.fx_inequalities.specs.Near.{IsNear}
use Rattle.fx_run.proofs.Blocks.{none_at_start}
use Rattle.fx_run.proofs.held.HeldStep.new.Goals as goal

pub returns-clause-can : goal.returns-clause-can
returns-clause-can g c =
    let a = c.args.certified.now in let p = a.program in
    let states : c.in-Ok-new.registers.states ≡ start_words p.codes = c.in-Ok-new.ensures.states
    ∙ ap (λ (q : Program). start_words q.codes) c.program.ensures in
    record {
      room = c.requires.lane_room;
      can = record {
        width = c.requires.width;
        ready = record {
          words = ap length c.in-Ok-new.ensures.words ∙ length-replicate _ _
              ∙ ap (λ (q : Program). length q.codes) c.program.ensures;
          state = start_state a.function;
          near =
              subst (λ z. IsNear a.function p a.certificate z (start_state a.function))
              (sym states) c.certified.ensures.start;
        };
      };
      none = states ∙ none_at_start a c.certified.ensures.certified c.certified.ensures.start c.requires.states;
      holds = record {
        states = c.requires.states;
        words = c.in-Ok-new-2.ensures ∙ ap (λ (q : Program). length q.codes) c.program-2.ensures;
        many = omega (arith, c.in-Ok.ensures.len, c.in-Ok.rows.ok.0, c.input_count-n.ensures.value);
        few = omega arith;
        begun = inl refl;
        in_range = λ e. absurd cc;
      };
    }

pub returns-clause-start : goal.returns-clause-start
returns-clause-start g c =
    none_at_start c.args.certified.now c.certified.ensures.certified c.certified.ensures.start c.requires.states

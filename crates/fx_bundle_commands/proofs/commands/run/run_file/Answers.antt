use Rattle.std.proofs.Common.{refl, inl, inr}
use Rattle.fx_base.proofs.Noting.{none_noted, noted_as}
use Rattle.fx_stream.proofs.Grown.{none_grown}
use Rattle.fx_bundle_commands.proofs.Consumed.{none_taken}
use Rattle.fx_ends.specs.EndView.{end_of}
use Rattle.fx_bundle_commands.specs.Opening.{unopened, opened}
use Rattle.fx_bundle_commands.specs.OpeningView.{with_source}
use Rattle.fx_bundle_commands.specs.Tasks.{IsPromptAt}
use Rattle.fx_bundle_commands.proofs.commands.run.run_file.Goals as goal

pub returns-in-Err : goal.returns-in-Err
returns-in-Err g c =
    record {
      end = end_of c.in-Err.end;
      answer = record { status_is = c.finish.ensures.status; line = c.finish.ensures.line };
      ends = unopened _ c.in-Err.ensures.failed (record { left = refl; taken = refl });
      quiet = λ quiet. record { input = refl; output = refl };
      unopened = inr (record { input = refl; output = refl });
      asked = c.in-Err.ensures.asked;
      prompt = none_noted (IsPromptAt _ _ _ _) _;
      consumed = none_taken _;
      appended = none_grown _;
    }

pub returns-in-Ok : goal.returns-in-Ok
returns-in-Ok g c =
    let o = c.in-Ok.ensures.opened in let x = c.in-Ok.opened in let r = c.run_input-end.ensures in
    record {
      end = end_of c.run_input-end.result;
      answer = record { status_is = c.finish-in-Ok.ensures.status; line = c.finish-in-Ok.ensures.line };
      ends = opened _ (with_source x.certified x.source) x.certified.function o.is_bundle o.accepted (r.ended x.source);
      quiet = λ quiet. absurd (r.loud quiet);
      unopened = inl (with_source x.certified x.source, x.certified.function, o.is_bundle, o.accepted);
      asked = c.in-Ok.ensures.asked;
      prompt =
          noted_as _ (IsPromptAt _ _ _ _) _ _ (λ m is. record {
            bundle = with_source x.certified x.source;
            function = x.certified.function;
            is_bundle = o.is_bundle;
            accepted = o.accepted;
            answered = is;
          }) r.prompt;
      consumed = r.consumed;
      appended = r.appended;
    }

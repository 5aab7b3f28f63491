use Rattle.std.proofs.Common.{◌≡◌, refl, subst, inl, inr}
use Rattle.fx_stream.proofs.Grown.{none_grown}
use Rattle.fx_bundle_commands.specs.Opening.{IsOpen, opened, unopened}
use Rattle.fx_bundle_commands.specs.OpeningView.{with_source}
use Rattle.fx_bundle_commands.proofs.FileEnds.{text_grows}
use Rattle.fx_c_command.specs.WordsView.{request_view}
use Rattle.fx_c_command.specs.Words.{TextRequest}
use Rattle.fx_c_command.proofs.call.print_request.Goals as goal

pub returns-in-Err : goal.returns-in-Err
returns-in-Err g c = record {
  ended = unopened _ c.in-Err.ensures.failed (record { left = refl; taken = refl });
  quiet = λ silent. refl;
  unopened = λ r is. inr refl;
  asked = c.in-Err.ensures.asked;
  appended = none_grown _;
}

pub returns-in-Ok : goal.returns-in-Ok
returns-in-Ok g c =
    let o = c.in-Ok.opened in let file = c.in-Ok.ensures.opened in
    let b = with_source o.certified o.source in
    let printed = c.print_text.ensures.ended _ c.printed_text.ensures in record {
      ended = opened _ b o.certified.function file.is_bundle file.accepted (record {
        ends = printed;
        holds = c.text_law.ensures;
      });
      quiet = c.print_text.ensures.quiet;
      unopened = λ r is. let same : request_view c.args.request.now ≡ r = cc in
          inl (subst (λ (r : TextRequest). IsOpen (g.H.Shelf.seen c.args.shelf.now).files r.file) same
          (b, o.certified.function, file.is_bundle, file.accepted));
      asked = c.in-Ok.ensures.asked;
      appended = text_grows _ _ _ _ printed;
    }

-- Reports of room that is awaited.
use Rattle.std.proofs.Common.{List, [], ◌∷◌, ◌++◌, sym, ◌∙◌}
use Rattle.std.specs.List.{All}
use Rattle.std.proofs.lemmas.List.Elements.{All-push}
use Rattle.proxy_net.specs.declared.reports.Report.{Report}
use Rattle.memory_sockets.specs.declared.streams.Streams.{Streams}
use Rattle.memory_sockets.specs.Streams.{IsRoomAwaited, KeepsWatches}

-- a report more, of what was watched all along
pub awaited_last : (old new : Streams) (reports : List Report) (report : Report) → KeepsWatches old new → All (IsRoomAwaited old) reports → IsRoomAwaited new report →
    All (IsRoomAwaited old) (reports ++ report ∷ [])
awaited_last old new reports report kept all last = All-push (IsRoomAwaited old) reports report all (record {
  is_open = λ w. sym (kept.is_open report.number) ∙ last.is_open w;
  room = λ w. sym (kept.room report.number) ∙ last.room w;
})

-- A run adds entries to a journal.
use Rattle.std.proofs.Common.{ℕ, zero, suc, ◌≡◌, inl, inr, List, [], ◌++◌, Some, Ok, Err, refl, ap, ◌∙◌, sym, append_assoc, length}
use Rattle.link_traits.specs.Journals.{Journal}
use Rattle.link_traits.specs.Views.{NetView, Adds, SinkView}
use Rattle.policy_args.specs.declared.line.Block.{Block}
use Rattle.proxy_loop.specs.declared.turns.ServerEnd.TheVariants.{Listen, Wait, Memory}
use Rattle.proxy_loop.specs.Listening.{Heard, ListenDid}
use Rattle.proxy_loop.specs.Tables.{Table}
use Rattle.proxy_run.specs.Runs.{RunEnd, OneTurn, Turns, LastTurn, TurnsEnd, AfterListen, RunDid, most_turns}

pub record Grows (before after : NetView) : Type 0 where
  pub each : (now : Journal) → after.journal ≡ Some now → (was : Journal) × (since : Journal) × (before.journal ≡ Some was) × (now ≡ since ++ was)

none_added : (before after : NetView) → after ≡ before → Grows before after
none_added before after e = record { each = λ now h. (now, [], ap (λ (v : NetView). v.journal) (sym e) ∙ h, refl) }

grows_then : (before between after : NetView) → Grows before between → Grows between after → Grows before after
grows_then before between after a b = record {
  each = λ now e.
      let y = b.each now e in
      let x = a.each y.0 y.2 in
      (x.0, y.1 ++ x.1, x.2, y.3 ∙ ap (λ (l : Journal). y.1 ++ l) x.3 ∙ sym (append_assoc y.1 x.1 x.0));
}

grows_by : (before after : NetView) (added : Journal) → Adds before after added → Grows before after
grows_by before after added adds = record { each = λ now e. let a = adds.told now e in (a.0, added, a.1, a.2) }

-- ---- turns

turn_grows : (blocks : List Block) (limit : ℕ) (old new : Table) (before after : NetView) (first last : SinkView) (answer : _) →
    OneTurn blocks limit old new before after first last answer → Grows before after
turn_grows blocks limit old new before after first last answer t = record { each = λ now e. let s = t.serves.each now e in (s.0, s.2, s.1, s.3) }

turns_grow : (blocks : List Block) (limit count : ℕ) (old new : Table) (before after : NetView) (first last : SinkView) →
    Turns blocks limit count old new before after first last → Grows before after
turns_grow blocks limit zero old new before after first last t = none_added before after t.1
turns_grow blocks limit (suc count) old new before after first last t =
    grows_then before t.1 after (turns_grow blocks limit count old t.0 before t.1 first t.2 t.3) (turn_grows blocks limit t.0 new t.1 after t.2 last _ t.4)

last_grows : (blocks : List Block) (limit : ℕ) (old new : Table) (before after : NetView) (first last : SinkView) (answer : _) →
    LastTurn blocks limit old new before after first last answer → Grows before after
last_grows blocks limit old new before after first last answer t =
    grows_then before t.between after (turns_grow blocks limit t.count old t.mid before t.between first t.so_far t.turns)
    (turn_grows blocks limit t.mid new t.between after t.so_far last answer t.turn)

ended_grows : (blocks : List Block) (limit : ℕ) (old new : Table) (before after : NetView) (first last : SinkView) (end : RunEnd) →
    TurnsEnd blocks limit old new before after first last end → Grows before after
ended_grows blocks limit old new before after first last (Ok done) (inl t) = last_grows blocks limit old new before after first last _ t
ended_grows blocks limit old new before after first last (Ok done) (inr t) = turns_grow blocks limit most_turns old new before after first last t
ended_grows blocks limit old new before after first last (Err end) t = last_grows blocks limit old new before after first last _ t

rest_grows : (blocks : List Block) (limit : ℕ) (heard end : RunEnd) (before after : NetView) (first last : SinkView) →
    AfterListen blocks limit heard before after first last end → Grows before after
rest_grows blocks limit (Ok done) end before after first last a = ended_grows blocks limit a.old a.new before after first last end a.ended
rest_grows blocks limit (Err refused) end before after first last a = none_added before after a.0

-- ---- listening

heard_grows : (blocks : List Block) (count : ℕ) (before after : NetView) → Heard blocks count before after → Grows before after
heard_grows blocks count before after h = record { each = λ now e. let t = h.told now e in (t.0, t.2, t.1, t.3) }

listen_grows : (blocks : List Block) (before after : NetView) (answer : RunEnd) → ListenDid blocks before after answer → Grows before after
listen_grows blocks before after (Ok done) h = heard_grows blocks (length blocks) before after h
listen_grows blocks before after (Err (Listen k)) h = grows_then before h.0 after (heard_grows blocks k before h.0 h.2) (grows_by h.0 after _ h.3)
listen_grows blocks before after (Err Memory) h = grows_then before h.0 after (heard_grows blocks h.1 before h.0 h.3) (grows_by h.0 after _ h.4)
listen_grows blocks before after (Err Wait) h = absurd h

-- ---- the run

pub run_grows : (blocks : List Block) (limit : ℕ) (before after : NetView) (first last : SinkView) (end : RunEnd) → RunDid blocks limit before after first last end → Grows before after
run_grows blocks limit before after first last end (inl d) =
    grows_then before d.between after (listen_grows blocks before d.between d.heard d.listened) (rest_grows blocks limit d.heard end d.between after first last d.rest)
run_grows blocks limit before after first last end (inr d) = none_added before after d.net

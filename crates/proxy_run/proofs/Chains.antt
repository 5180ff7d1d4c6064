-- Turns, one after the other.
use Rattle.std.proofs.Common.{ℕ, zero, suc, ◌≡◌, ◌+◌, inl, inr, List, [], Some, None, Result, Ok, Err, refl, ◌∙◌, arith, subst}
use Rattle.link_traits.specs.Views.{NetView, SinkView}
use Rattle.policy_args.specs.declared.line.Block.{Block}
use Rattle.proxy_loop.specs.declared.line_server.Server.{Server}
use Rattle.proxy_loop.specs.declared.turns.Turn.{Turn}
use Rattle.proxy_loop.specs.declared.turns.Turn.TheVariants.{Went, Stopped}
use Rattle.proxy_loop.specs.declared.turns.ServerEnd.{ServerEnd}
use Rattle.proxy_loop.specs.Tables.{Table, IsEmpty}
use Rattle.proxy_loop.specs.Servers.{GoesOn}
use Rattle.proxy_loop.specs.LineServers.{blocks_of, limit_of, sessions_of}
use Rattle.proxy_loop.proofs.TurnLaws.{on_then}
use Rattle.proxy_run.specs.Runs.{RunEnd, end_at, OneTurn, Turns, LastTurn, TurnsEnd, TookTurns, most_turns}

-- what the loop over turns keeps
pub record Driven (blocks : List Block) (limit count : ℕ) (old : Table) (server : Server) (before after : NetView) (first last : SinkView) : Type 0 where
  pub blocks_are : blocks_of server ≡ blocks
  pub limit_is : limit_of server ≡ limit
  pub turns : Turns blocks limit count old (sessions_of server) before after first last

pub not_yet : (server : Server) (net : NetView) (sink : SinkView) → Driven (blocks_of server) (limit_of server) 0 (sessions_of server) server net net sink sink
not_yet server net sink = record { blocks_are = refl; limit_is = refl; turns = (refl, refl, refl) }

module _ (blocks : List Block) (limit count : ℕ) (old : Table) (server next : Server) (v0 v1 v2 : NetView) (l0 l1 l2 : SinkView) (so_far : Driven blocks limit count old server v0 v1 l0 l1) where
  turn_at : (answer : Result Turn ServerEnd) → OneTurn (blocks_of server) (limit_of server) (sessions_of server) (sessions_of next) v1 v2 l1 l2 answer →
      OneTurn blocks limit (sessions_of server) (sessions_of next) v1 v2 l1 l2 answer
  turn_at answer turn =
      subst (λ (k : ℕ). OneTurn blocks k (sessions_of server) (sessions_of next) v1 v2 l1 l2 answer) so_far.limit_is
      (subst (λ (bs : List Block). OneTurn bs (limit_of server) (sessions_of server) (sessions_of next) v1 v2 l1 l2 answer) so_far.blocks_are turn)

  went : OneTurn (blocks_of server) (limit_of server) (sessions_of server) (sessions_of next) v1 v2 l1 l2 (Ok Went) → blocks_of next ≡ blocks_of server → limit_of next ≡ limit_of server →
      Driven blocks limit (count + 1) old next v0 v2 l0 l2
  went turn same_blocks same_limit = record {
    blocks_are = same_blocks ∙ so_far.blocks_are;
    limit_is = same_limit ∙ so_far.limit_is;
    turns = let e : count + 1 ≡ suc count = omega arith in rw e (sessions_of server, v1, l1, so_far.turns, turn_at (Ok Went) turn);
  }

  last_turn : (answer : Result Turn ServerEnd) → OneTurn (blocks_of server) (limit_of server) (sessions_of server) (sessions_of next) v1 v2 l1 l2 answer →
      LastTurn blocks limit old (sessions_of next) v0 v2 l0 l2 answer
  last_turn answer turn = record { count = count; mid = sessions_of server; between = v1; so_far = l1; turns = so_far.turns; turn = turn_at answer turn }

  -- the run ends with this answer
  pub ended : IsEmpty old → (answer : Result Turn ServerEnd) (end : RunEnd) → Some end ≡ end_at answer → OneTurn (blocks_of server) (limit_of server) (sessions_of server) (sessions_of next) v1 v2 l1 l2 answer →
      TookTurns blocks limit v0 v2 l0 l2 end
  ended empty (Ok Went) end e turn = cc
  ended empty (Ok Stopped) end e turn =
      let same : end ≡ Ok tt = cc in
      rw same (record { old = old; empty = empty; new = sessions_of next; ended = inl (last_turn (Ok Stopped) turn) })
  ended empty (Err why) end e turn =
      let same : end ≡ Err why = cc in
      rw same (record { old = old; empty = empty; new = sessions_of next; ended = last_turn (Err why) turn })

  -- the run goes on
  pub one_more : (answer : Result Turn ServerEnd) → None ≡ end_at answer → OneTurn (blocks_of server) (limit_of server) (sessions_of server) (sessions_of next) v1 v2 l1 l2 answer →
      blocks_of next ≡ blocks_of server → limit_of next ≡ limit_of server → Driven blocks limit (count + 1) old next v0 v2 l0 l2
  one_more (Ok Went) e turn same_blocks same_limit = went turn same_blocks same_limit
  one_more (Ok Stopped) e turn same_blocks same_limit = cc
  one_more (Err why) e turn same_blocks same_limit = cc

pub all_taken : (blocks : List Block) (limit count : ℕ) (old : Table) (server : Server) (v0 v1 : NetView) (l0 l1 : SinkView) → Driven blocks limit count old server v0 v1 l0 l1 → IsEmpty old → count ≡ most_turns →
    TookTurns blocks limit v0 v1 l0 l1 (Ok tt)
all_taken blocks limit count old server v0 v1 l0 l1 so_far empty e = record {
  old = old;
  empty = empty;
  new = sessions_of server;
  ended = inr (subst (λ (k : ℕ). Turns blocks limit k old (sessions_of server) v0 v1 l0 l1) e so_far.turns);
}

-- ---- the sessions go on

pub turns_on : (blocks : List Block) (limit count : ℕ) (old new : Table) (before after : NetView) (first last : SinkView) → Turns blocks limit count old new before after first last → GoesOn blocks old new before after
turns_on blocks limit zero old new before after first last t = rw t.0 (rw t.1 (record { each = λ now e. (now, e, [], refl, λ s. s) }))
turns_on blocks limit (suc count) old new before after first last t =
    on_then blocks old t.0 new before t.1 after (turns_on blocks limit count old t.0 before t.1 first t.2 t.3) t.4.serves

last_on : (blocks : List Block) (limit : ℕ) (old new : Table) (before after : NetView) (first last : SinkView) (answer : Result Turn ServerEnd) → LastTurn blocks limit old new before after first last answer →
    GoesOn blocks old new before after
last_on blocks limit old new before after first last answer t =
    on_then blocks old t.mid new before t.between after (turns_on blocks limit t.count old t.mid before t.between first t.so_far t.turns) t.turn.serves

pub ended_on : (blocks : List Block) (limit : ℕ) (old new : Table) (before after : NetView) (first last : SinkView) (end : Result (Unit {0}) ServerEnd) → TurnsEnd blocks limit old new before after first last end →
    GoesOn blocks old new before after
ended_on blocks limit old new before after first last (Ok done) (inl t) = last_on blocks limit old new before after first last (Ok Stopped) t
ended_on blocks limit old new before after first last (Ok done) (inr t) = turns_on blocks limit most_turns old new before after first last t
ended_on blocks limit old new before after first last (Err end) t = last_on blocks limit old new before after first last (Err end) t

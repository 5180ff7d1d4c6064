-- The result of one call of a net. A listener or a connection has its path, an accept its listener and the session's
-- number, and a read or a write its link and the bytes that it gave or took.
use Rattle.std.specs.Prelude.{ℕ, List}
use Rattle.link_traits.specs.declared.links.Link.{Link}
use Rattle.link_traits.specs.declared.links.Ready.{Ready}
use Rattle.link_traits.specs.declared.links.Call.{Call}

pub data Entry : Type 0 where
  listened : ℕ → List ℕ → Entry
  ready : Ready → Entry
  accepted : ℕ → ℕ → Entry
  connected : ℕ → List ℕ → Entry
  read : Link → List ℕ → Entry
  finished : Link → Entry
  wrote : Link → List ℕ → Entry
  not_ready : Call → Entry
  failed : Call → Entry
  refused : Call → Entry
  shut : Link → Entry

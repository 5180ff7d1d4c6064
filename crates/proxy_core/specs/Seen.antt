-- What a session does with the first message that is left of a side's stream, while what is left is outside the
-- session.
use Rattle.std.specs.Prelude.{◌≡◌, ◌⊎◌, ℕ, ◌+◌, Bool, false, List, [], None, is_none}
use Rattle.dbus_framing.specs.Framing.{Takes}
use Rattle.dbus_header.specs.Malformed.{fault, front}
use Rattle.dbus_header.specs.Message.{Message}
use Rattle.policy_args.specs.Policy.{Policy}
use Rattle.policy_view.specs.declared.Side.{Side}
use Rattle.proxy_core.specs.Sessions.{SessionView, stream_of}
use Rattle.proxy_core.specs.Streams.{InMessages}
use Rattle.proxy_core.specs.Messages.{with_watched_message}
use Rattle.proxy_core.specs.Steps.{with_fault, with_stream, TookMessage}

-- the first message was taken, and the rest is left
pub record TookWhole (policy : Policy) (side : Side) (left rest : List ℕ) (old new : SessionView) (more : Bool) : Type 0 where
  pub message : Message
  pub frame : List ℕ
  pub takes : Takes left frame rest message
  pub took : TookMessage (with_watched_message policy side message old) old new
  pub runs : more ≡ is_none new.ended

-- no message is first, and the fault, if there is one, becomes the session's End
pub record TookNone (side : Side) (left rest : List ℕ) (old new : SessionView) (more : Bool) : Type 0 where
  pub none : front left ≡ None
  pub stays : rest ≡ left
  pub ended : new ≡ with_fault side (fault left) old
  pub stops : more ≡ false

abbrev pub TookFirst : Policy → Side → List ℕ → List ℕ → SessionView → SessionView → Bool → Type 0
TookFirst policy side left rest old new more = TookWhole policy side left rest old new more ⊎ TookNone side left rest old new more

-- what is left of a side's messages is outside the session
pub record IsLent (side : Side) (view : SessionView) : Type 0 where
  pub phase : (stream_of side view).phase ≡ InMessages
  pub none : (stream_of side view).left ≡ []

-- this number of bytes was received from a side, and they are outside the session
abbrev pub with_came : Side → ℕ → SessionView → SessionView
with_came side n view = with_stream side (record (stream_of side view) { came = (stream_of side view).came + n }) view

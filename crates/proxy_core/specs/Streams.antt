-- The model of a side's stream: first lines, if the session begins with them, and then messages.
use Rattle.std.specs.Prelude.{◌≡◌, ◌≤◌, ℕ, ◌+◌, Bool, true, false, List, [], ◌++◌, length, Option, None}
use Rattle.sasl_watch.specs.declared.LineFault.{LineFault}
use Rattle.sasl_watch.specs.declared.NextLine.{NextLine}
use Rattle.sasl_watch.specs.declared.NextLine.TheVariants as gives
use Rattle.sasl_watch.specs.Watching.{Watch}
use Rattle.policy_view.specs.History.{longest_stream}
use Rattle.proxy_core.specs.declared.stream.Content.{Content}
use Rattle.proxy_core.specs.declared.stream.Content.TheVariants as of

-- the stream is in its lines, of which the next begins at the place and a fault may have been reported; or in its
-- messages
pub data Phase : Type 0 where
  InLines : (place : ℕ) (told : Option LineFault) → Phase
  InMessages : Phase

pub record StreamView : Type 0 where
  -- the number of bytes that were received
  pub came : ℕ
  pub phase : Phase
  -- those of them that aren't yet a whole line or message
  pub left : List ℕ
  -- the number of lines that were given: of the client's, without the NUL and BEGIN
  pub lines : ℕ

abbrev pub is_in_lines : Phase → Bool
is_in_lines (InLines place told) = true
is_in_lines InMessages = false

abbrev pub first_phase : Bool → Phase
first_phase true = InLines 0 None
first_phase false = InMessages

abbrev pub new_stream : Bool → StreamView
new_stream auth = record { came = 0; phase = first_phase auth; left = []; lines = 0 }

-- bytes are appended to what is left
abbrev pub pushed : List ℕ → StreamView → StreamView
pushed bytes stream = record stream { came = stream.came + length bytes; left = stream.left ++ bytes }

abbrev pub watch_at : ℕ → Option LineFault → List ℕ → Watch
watch_at place told left = record { place = place; left = left; bad = told }

abbrev pub counted : NextLine → ℕ
counted gives.Nul = 0
counted (gives.Line line) = 1
counted (gives.Begin line) = 0
counted gives.Done = 0
counted gives.Incomplete = 0
counted (gives.Bad f) = 0

-- the stream, which was in its lines, gave this
pub record GaveLine (Gives : Watch → NextLine → Watch → Type 0) (old : StreamView) (next : NextLine) (new : StreamView) : Type 0 where
  pub place : ℕ
  pub told : Option LineFault
  pub watch : Watch
  pub before : old.phase ≡ InLines place told
  pub given : Gives (watch_at place told old.left) next watch
  pub is : new ≡ record { came = old.came; phase = InLines watch.place watch.bad; left = watch.left; lines = old.lines + counted next }

-- ---- the code's stream

abbrev pub phase_of : Content → Phase
phase_of (of.Lines w) = InLines w.place w.bad
phase_of (of.Messages left) = InMessages

abbrev pub left_in : Content → List ℕ
left_in (of.Lines w) = w.left
left_in (of.Messages left) = left

abbrev pub Sound : ℕ → Content → ℕ → Type 0
Sound came (of.Lines w) lines = (came ≤ longest_stream) × (w.place + length w.left ≤ came) × (lines ≤ w.place)
Sound came (of.Messages left) lines = came ≤ longest_stream

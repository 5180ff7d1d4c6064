-- What a sink gets of lines that are joined before they are written.
use Rattle.std.specs.Prelude.{◌≡◌, ℕ, List, ◌∷◌, ◌++◌, Option}
use Rattle.explain_log.specs.Lines.{log}
use Rattle.link_traits.specs.Told.{added}
use Rattle.policy_view.specs.Notes.{Note}
use Rattle.replay.specs.SessionsOutput.{session_log}
use Rattle.replay.specs.declared.session_notes.SessionNote.{SessionNote}

-- a prefix of the bytes was written, and these are left
pub record Joins (told new : Option (List ℕ)) (bytes left : List ℕ) : Type 0 where
  pub got : List ℕ
  pub split : bytes ≡ got ++ left
  pub is : new ≡ added got told

-- memory was refused for the line of a note: the lines of the notes before it were written, and these notes are left
pub record LineRefused (told new : Option (List ℕ)) (notes left : List Note) : Type 0 where
  pub before : List Note
  pub note : Note
  pub split : notes ≡ before ++ note ∷ left
  pub is : new ≡ added (log 1 before) told

-- some of a log's lines were written, each of them whole, from the first on
pub record WholeLines (told new : Option (List ℕ)) (all : List ℕ) : Type 0 where
  pub written : List Note
  pub others : List Note
  pub split : all ≡ log 1 written ++ log 1 others
  pub is : new ≡ added (log 1 written) told

-- of the lines of these notes of many sessions some were written, each of them whole, from the first on
pub record WholeSessionLines (told new : Option (List ℕ)) (noted : List SessionNote) : Type 0 where
  pub written : List SessionNote
  pub others : List SessionNote
  pub split : noted ≡ written ++ others
  pub is : new ≡ added (session_log written) told

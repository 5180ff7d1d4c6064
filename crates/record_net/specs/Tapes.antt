-- What contracts see of a recorder: its files and its failure, and what a record appends.
use Rattle.std.specs.Prelude.{ℕ, ◌≡◌, ◌≢◌, ◌≤◌, ◌<◌, List, length, take, Option, None, Some, Result, Err, OnOk, OnErr, IsErrOf}
use Rattle.link_traits.specs.Told.{added, Rose}
use Rattle.link_traits.specs.declared.outside.FileFault.{FileFault}
use Rattle.link_traits.specs.declared.outside.FileFault.TheVariants.{Failed, TooLong}
use Rattle.link_traits.specs.Views.{FilesView}

-- the files, and the first error of an append
pub record Tape : Type 0 where
  pub files : FilesView
  pub failed : Option FileFault

abbrev pub tape_of : FilesView → Option FileFault → Tape
tape_of files failed = record { files = files; failed = failed }

-- a prefix of some bytes that lacks at least one was appended to what is known
pub record Cut (bytes : List ℕ) (old new : Option (List ℕ)) : Type 0 where
  pub count : ℕ
  pub lacks : count < length bytes
  pub got : new ≡ added (take count bytes) old

-- The file of a path got all these bytes if the result is Ok, and else a prefix that lacks some. No other path changed,
-- no file was read, and a result Failed has a counted fault.
pub record Appended (path bytes : List ℕ) (answer : Result (Unit {0}) FileFault) (old new : FilesView) : Type 0 where
  pub whole : OnOk answer (new.told path ≡ added bytes (old.told path))
  pub part : OnErr answer (Cut bytes (old.told path) (new.told path))
  pub others : (p : List ℕ) → p ≢ path → new.told p ≡ old.told p
  pub cause : IsErrOf answer Failed → Rose old.faults new.faults
  pub short : answer ≢ Err TooLong
  pub count : old.faults ≤ new.faults
  pub unread : new.reads ≡ old.reads

-- Bytes were appended to the file of a path, unless an append had failed before: then nothing changes any more. If this
-- append fails, a prefix that lacks some of the bytes was appended.
pub record Puts (path bytes : List ℕ) (old new : Tape) : Type 0 where
  pub whole : new.failed ≡ None → (old.failed ≡ None) × (new.files.told path ≡ added bytes (old.files.told path))
  pub part : (fault : FileFault) → old.failed ≡ None → new.failed ≡ Some fault → Cut bytes (old.files.told path) (new.files.told path)
  pub stays : (fault : FileFault) → old.failed ≡ Some fault → new ≡ old
  pub cause : old.failed ≡ None → new.failed ≡ Some Failed → Rose old.files.faults new.files.faults
  pub short : old.failed ≡ None → new.failed ≢ Some TooLong
  pub others : (p : List ℕ) → p ≢ path → new.files.told p ≡ old.files.told p
  pub count : old.files.faults ≤ new.files.faults
  pub unread : new.files.reads ≡ old.files.reads

-- Where a recording began, and what is true of it since.
use Rattle.std.specs.Prelude.{ℕ, ◌≡◌, ◌≢◌, ◌≤◌, ◌<◌, true, List, [], ◌++◌, length, take, Option, None, Some}
use Rattle.std.specs.List.{list_all}
use Rattle.link_traits.specs.Journals.{Journal}
use Rattle.link_traits.specs.Told.{Rose}
use Rattle.link_traits.specs.declared.outside.FileFault.{FileFault}
use Rattle.link_traits.specs.declared.outside.FileFault.TheVariants.{Failed, TooLong}
use Rattle.link_traits.specs.Views.{FilesView}
use Rattle.record_net.specs.Fitting.{entry_fits}
use Rattle.record_net.specs.Records.{recorded}
use Rattle.record_net.specs.Tapes.{Tape}

-- the net's journal if it is known, the files, and the path of the recording
pub record Start : Type 0 where
  pub journal : Option Journal
  pub files : FilesView
  pub path : List ℕ

abbrev pub start_of : Option Journal → FilesView → List ℕ → Start
start_of journal files path = record { journal = journal; files = files; path = path }

abbrev pub no_start : Start
no_start = start_of None (record { told = λ _. None; faults = 0; reads = [] }) []

-- As far as the journal and the file are known: while no append failed, the file is the recording of the entries that
-- were added since the start; after that it is a prefix of it that lacks some bytes. The other paths hold what they
-- held, and no file was read. An append failed only with a counted fault. Each of these entries fits into a record.
pub record IsRecording (start : Start) (journal : Option Journal) (tape : Tape) : Type 0 where
  pub longer : (before now : Journal) → start.journal ≡ Some before → journal ≡ Some now → length before ≤ length now
  pub whole : (before since : Journal) (bytes : List ℕ) → start.journal ≡ Some before → journal ≡ Some (since ++ before) →
      tape.files.told start.path ≡ Some bytes → tape.failed ≡ None → bytes ≡ recorded since
  pub part : (before since : Journal) (bytes : List ℕ) (fault : FileFault) → start.journal ≡ Some before → journal ≡ Some (since ++ before) →
      tape.files.told start.path ≡ Some bytes → tape.failed ≡ Some fault → (length bytes < length (recorded since)) × (bytes ≡ take (length bytes) (recorded since))
  pub fit : (before since : Journal) → start.journal ≡ Some before → journal ≡ Some (since ++ before) → list_all entry_fits since ≡ true
  pub cause : tape.failed ≡ Some Failed → Rose start.files.faults tape.files.faults
  pub short : tape.failed ≢ Some TooLong
  pub others : (p : List ℕ) → p ≢ start.path → tape.files.told p ≡ start.files.told p
  pub count : start.files.faults ≤ tape.files.faults
  pub unread : tape.files.reads ≡ start.files.reads

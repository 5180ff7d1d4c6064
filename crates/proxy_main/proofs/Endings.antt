-- From why a run stopped to how it ended.
use Rattle.std.proofs.Common.{◌≡◌, ◌≤◌, ◌<◌, ◌^◌, ◌-◌, inl, inr, ℕ, List, Option, None, Some, IfSome, refl, sym, ◌∙◌, subst, arith}
use Rattle.link_traits.specs.Told.{added, Part, Rose}
use Rattle.link_traits.specs.Views.{FilesView, SinkView, FilesRose, SinkRose}
use Rattle.policy_args.specs.Words.{PolicyOptions}
use Rattle.recording.specs.Sessions.{Sessions}
use Rattle.replay.specs.SessionsOutput.{output_of_sessions}
use Rattle.proxy_main.specs.declared.Stop.{Stop}
use Rattle.proxy_main.specs.declared.Stop.TheVariants as stop
use Rattle.proxy_main.specs.Words.{Command}
use Rattle.proxy_main.specs.Answers.{Answer, replayed, explaining, answer_to, IsSettled, Agrees, HasCode, HasOut, IsWork, GivesOutTheSame}
use Rattle.proxy_main.specs.Lines.{refusal_line, file_line, memory_line}
use Rattle.proxy_main.specs.Loads.{StopsBy, CausedBy, Keeps, KeepsLog, IsDone, IsWritten, IsFront, IsLogInLines}
use Rattle.proxy_main.specs.Endings.{Ends, Refuses, NoFile, OutFails, LogFails, NoMemory, Said, Whole, Cut, IsTold, IsStopOf, StopTold}
use Rattle.proxy_main.proofs.Logs.{lines_none}

-- ---- why a run stopped

-- the line of a file that failed was said
pub file_told : (rose : Type 0) (old new : Option (List ℕ)) (code : ℕ) (path : List ℕ) (why : Stop) → IsStopOf path why → StopTold rose old new code why → IsTold 4 (file_line path) rose old new code
file_told rose old new code path (stop.Refused refusal) is t = absurd is
file_told rose old new code path (stop.File shown) is t = subst (λ (p : List ℕ). IsTold 4 (file_line p) rose old new code) is t
file_told rose old new code path stop.Output is t = absurd is
file_told rose old new code path stop.Log is t = absurd is
file_told rose old new code path stop.Memory is t = absurd is

-- ---- an answer that agrees with another

pub done_as : (a b : Answer) (out new_out : Option (List ℕ)) (code : ℕ) → Agrees a b → IsDone b out new_out code → IsDone a out new_out code
done_as a b out new_out code agrees done = λ settled.
    let is = agrees settled in
    subst (λ x. HasCode x code × IsWritten x out new_out × (code ≡ 0 → GivesOutTheSame x)) (sym is) (done (subst IsSettled is settled))

pub front_as : (a b : Answer) (out new_out : Option (List ℕ)) → Agrees a b → IsFront b out new_out → IsFront a out new_out
front_as a b out new_out agrees front = λ settled.
    let is = agrees settled in
    subst (λ x. (bytes : List ℕ) × HasOut x bytes × Part out new_out bytes) (sym is) (front (subst IsSettled is settled))

pub work_as : (a b : Answer) → Agrees a b → IsWork b → IsSettled a → IsWork a
work_as a b agrees work settled = subst IsWork (sym (agrees settled)) work

-- ---- a replay

pub done_of : (a : Answer) (o : PolicyOptions) (r : Sessions) (out new_out : Option (List ℕ)) → Agrees a (replayed o r) →
    new_out ≡ added (output_of_sessions o r) out → IsDone a out new_out 0
unfolding replayed
done_of a o r out new_out agrees got = done_as a (replayed o r) out new_out 0 agrees (λ settled. (refl, (output_of_sessions o r, refl, got), λ zero. tt))

pub front_of : (a : Answer) (o : PolicyOptions) (r : Sessions) (out new_out : Option (List ℕ)) → Agrees a (replayed o r) →
    Part out new_out (output_of_sessions o r) → IsFront a out new_out
unfolding replayed
front_of a o r out new_out agrees got = front_as a (replayed o r) out new_out agrees (λ settled. (output_of_sessions o r, refl, got))

pub work_of : (a : Answer) (o : PolicyOptions) (r : Sessions) → Agrees a (replayed o r) → IsSettled a → IsWork a
unfolding replayed
work_of a o r agrees settled = work_as a (replayed o r) agrees tt settled

-- ---- an explanation

pub explaining_front : (x : Option (List ℕ)) (out new_out : Option (List ℕ)) → IfSome x (Part out new_out) → (x ≡ None → ⊥) → IsFront (explaining x) out new_out
explaining_front None out new_out part some = absurd (some refl)
explaining_front (Some bytes) out new_out part some = λ settled. (bytes, refl, part)

-- ---- err's count of faults, over the work and then the line

rose_later : (a b c : ℕ) → b ≤ c → Rose a b → Rose a c
rose_later a b c le rose = λ small. let before : b < 2 ^ 64 - 1 = omega arith in let more : a < b = rose before in omega arith

pub rose_earlier : (a b c : ℕ) → a ≤ b → Rose b c → Rose a c
rose_earlier a b c le rose = λ small. let more : b < c = rose small in omega arith

pub said_over : (a b c : ℕ) (old new : Option (List ℕ)) (line : List ℕ) → a ≤ b → Said (Rose b c) old new line → Said (Rose a c) old new line
said_over a b c old new line le (Whole is) = Whole is
said_over a b c old new line le (Cut rose part) = Cut (rose_earlier a b c le rose) part

-- a line alone
pub said_first : (a b c : ℕ) (old between new : Option (List ℕ)) (line : List ℕ) → a ≤ b → between ≡ old → Said (Rose b c) between new line → Said (Rose a c) old new line
said_first a b c old between new line le same said = subst (λ told. Said (Rose a c) told new line) same (said_over a b c between new line le said)

-- ---- how a run that stopped ended

no_memory : (command : Option Command) (files files' : FilesView) (out out' err between err' : SinkView) (code : ℕ) → err.faults ≤ between.faults → code ≡ 8 → out'.told ≡ out.told →
    IsLogInLines files.told command err.told between.told → Said (SinkRose between err') between.told err'.told memory_line → Ends command files files' out out' err err' code
no_memory command files files' out out' err between err' code le is kept log said =
    NoMemory is kept (record { between = between.told; log = log; said = said_over err.faults between.faults err'.faults between.told err'.told memory_line le said })

-- err is between after the work and before the line
pub ends_stop : (command : Option Command) (files files' : FilesView) (out out' err between err' : SinkView) (code : ℕ) (s : Stop) → err.faults ≤ between.faults → between.faults ≤ err'.faults →
    StopsBy files.told command s → CausedBy (FilesRose files files') (SinkRose out out') (SinkRose err between) s → Keeps (answer_to files.told command) out.told out'.told s →
    KeepsLog files.told command err.told between.told s → StopTold (SinkRose between err') between.told err'.told code s → Ends command files files' out out' err err' code
ends_stop command files files' out out' err between err' code (stop.Refused r) le more by cause keeps log (inl t) =
    Refuses r t.0 by.0 by.1 keeps (said_first err.faults between.faults err'.faults err.told between.told err'.told (refusal_line r) le log t.1)
ends_stop command files files' out out' err between err' code (stop.Refused r) le more by cause keeps log (inr t) =
    no_memory command files files' out out' err between err' code le t.0 keeps (lines_none files.told command err.told between.told log) t.1
ends_stop command files files' out out' err between err' code (stop.File path) le more by cause keeps log (inl t) =
    NoFile path.now t.0 cause by keeps (said_first err.faults between.faults err'.faults err.told between.told err'.told (file_line path.now) le log t.1)
ends_stop command files files' out out' err between err' code (stop.File path) le more by cause keeps log (inr t) =
    no_memory command files files' out out' err between err' code le t.0 keeps (lines_none files.told command err.told between.told log) t.1
ends_stop command files files' out out' err between err' code stop.Output le more by cause keeps log t =
    OutFails t.0 cause by keeps (log.0, log.1, t.1 ∙ log.2)
ends_stop command files files' out out' err between err' code stop.Log le more by cause keeps log t =
    LogFails t.0 (rose_later err.faults between.faults err'.faults more cause) by.1 by.0 keeps (log.0, log.1, subst (λ told. Part err.told told log.0) (sym t.1) log.2)
ends_stop command files files' out out' err between err' code stop.Memory le more by cause keeps log t =
    no_memory command files files' out out' err between err' code le t.0 keeps log t.1

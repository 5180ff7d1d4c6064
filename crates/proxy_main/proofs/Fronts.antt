-- Whatever the ending, out got a prefix of the answer's output, and err a prefix of the log and the status's line.
use Rattle.std.proofs.Common.{◌≡◌, ◌⊎◌, inl, inr, ℕ, List, [], Option, refl}
use Rattle.link_traits.specs.Told.{Part}
use Rattle.link_traits.specs.Views.{FilesView, SinkView, SinkRose}
use Rattle.link_traits.proofs.Parts.{part_all, part_none}
use Rattle.proxy_main.specs.Words.{Command}
use Rattle.proxy_main.specs.Answers.{answer_to}
use Rattle.proxy_main.specs.Lines.{refusal_line, file_line, memory_line}
use Rattle.proxy_main.specs.Loads.{IsEnd, IsFront, IsLogFront, IsLogged}
use Rattle.proxy_main.specs.Endings.{Ends, Done, Refuses, NoFile, OutFails, LogFails, NoMemory, Said, Whole, Cut, LineOf, NoLine, OfRefusal, OfFile, OfMemory, ErrFront}
use Rattle.proxy_main.proofs.Logs.{front_none, lines_front}

pub out_front : (command : Option Command) (files files' : FilesView) (out out' err err' : SinkView) (code : ℕ) →
    Ends command files files' out out' err err' code → (out'.told ≡ out.told) ⊎ IsFront (answer_to files.told command) out.told out'.told
out_front command files files' out out' err err' code (Done is done log) = inr (λ settled. let written = (done settled).1 in (written.0, written.1, part_all _ _ _ written.2))
out_front command files files' out out' err err' code (Refuses r is agrees words kept said) = inl kept
out_front command files files' out out' err err' code (NoFile path is rose needs kept said) = inl kept
out_front command files files' out out' err err' code (OutFails is rose work front log) = inr front
out_front command files files' out out' err err' code (LogFails is rose asked work kept log) = inl kept
out_front command files files' out out' err err' code (NoMemory is kept said) = inl kept

said_front : (rose : Type 0) (old new : Option (List ℕ)) (line : List ℕ) → Said rose old new line → Part old new line
said_front rose old new line (Whole is) = part_all _ _ _ is
said_front rose old new line (Cut rise part) = part

log_alone : (told : List ℕ → Option (List ℕ)) (command : Option Command) (err new_err : Option (List ℕ)) (code : ℕ) → LineOf code [] → IsLogFront told command err new_err → ErrFront told command err new_err code
log_alone told command err new_err code is log = record { between = new_err; log = log; line = []; is_line = is; front = part_none _ _ _ refl }

line_alone : (told : List ℕ → Option (List ℕ)) (command : Option Command) (rose : Type 0) (err new_err : Option (List ℕ)) (code : ℕ) (line : List ℕ) → LineOf code line → Said rose err new_err line → ErrFront told command err new_err code
line_alone told command rose err new_err code line is said =
    record { between = err; log = front_none told command err err refl; line = line; is_line = is; front = said_front rose err new_err line said }

whole_front : (told : List ℕ → Option (List ℕ)) (command : Option Command) (err new_err : Option (List ℕ)) → IsLogged told command err new_err → IsLogFront told command err new_err
whole_front told command err new_err log = (log.0, log.1, part_all _ _ _ log.2)

-- work that is done has no line
end_line : (command : Option Command) (code : ℕ) → IsEnd command code → LineOf code []
end_line command code (inl is) = NoLine (inl is) refl
end_line command code (inr is) = NoLine (inr (inr is.0)) refl

pub err_front : (command : Option Command) (files files' : FilesView) (out out' err err' : SinkView) (code : ℕ) →
    Ends command files files' out out' err err' code → ErrFront files.told command err.told err'.told code
err_front command files files' out out' err err' code (Done is done log) = log_alone files.told command err.told err'.told code (end_line command code is) (whole_front files.told command err.told err'.told log)
err_front command files files' out out' err err' code (Refuses r is agrees words kept said) = line_alone files.told command (SinkRose err err') err.told err'.told code (refusal_line r) (OfRefusal r is refl) said
err_front command files files' out out' err err' code (NoFile path is rose needs kept said) = line_alone files.told command (SinkRose err err') err.told err'.told code (file_line path) (OfFile path is refl) said
err_front command files files' out out' err err' code (OutFails is rose work front log) = log_alone files.told command err.told err'.told code (NoLine (inr (inl is)) refl) (whole_front files.told command err.told err'.told log)
err_front command files files' out out' err err' code (LogFails is rose asked work kept log) = log_alone files.told command err.told err'.told code (NoLine (inr (inl is)) refl) log
err_front command files files' out out' err err' code (NoMemory is kept said) =
    record { between = said.between; log = lines_front files.told command err.told said.between said.log; line = memory_line; is_line = OfMemory is refl; front = said_front (SinkRose err err') said.between err'.told memory_line said.said }

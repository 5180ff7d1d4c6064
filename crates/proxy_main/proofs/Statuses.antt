-- Whatever the ending, what its status says of the answer.
use Rattle.std.proofs.Common.{◌≡◌, ◌⊎◌, inl, inr, ℕ, Option, Some, None, sym, ◌∙◌, subst, arith}
use Rattle.link_traits.specs.Views.{FilesView, SinkView}
use Rattle.proxy_main.specs.declared.Refusal.{Refusal}
use Rattle.proxy_main.specs.declared.Refusal.TheVariants.{Usage, LineWord, ArgsTooLong, PolicyWord, PolicyTooLong, Recording as BadFile, NoSuchMessage, NoSuchSession, TooManyEntries, Message, Text}
use Rattle.proxy_main.specs.Words.{Command, Replay, Explain, Twin, Sample, Audit, Within, Suggest, Show, Compose, Session, ListSessions, Help, Version}
use Rattle.proxy_main.specs.Answers.{Answer, Untold, Refused, Wrote, Compared, Contained, answer_to, IsSettled, HasCode, IsWork, refusal_code}
use Rattle.proxy_main.specs.Loads.{IsComparison, IsDone, IsEnd, IsLogged, IsOfWords, IsSuggest}
use Rattle.proxy_main.specs.Endings.{Ends, Done, Refuses, NoFile, OutFails, LogFails, NoMemory, IsFree, ExactlyOfFiles, ExactlyOfWork}

-- an answer has one status at most
code_unique : (a : Answer) (m n : ℕ) → HasCode a m → HasCode a n → m ≡ n
code_unique Untold m n first second = absurd first
code_unique (Refused refusal) m n first second = sym first ∙ second
code_unique (Wrote out log) m n first second = sym first ∙ second
code_unique (Compared p one other) m n (inl first) (inl second) = sym first.1 ∙ second.1
code_unique (Compared p one other) m n (inl first) (inr second) = absurd (second.0 first.0)
code_unique (Compared p one other) m n (inr first) (inl second) = absurd (first.0 second.0)
code_unique (Compared p one other) m n (inr first) (inr second) = sym first.1 ∙ second.1
code_unique (Contained one other) m n (inl first) (inl second) = sym first.1 ∙ second.1
code_unique (Contained one other) m n (inl first) (inr second) = absurd (second.0 first.0)
code_unique (Contained one other) m n (inr first) (inl second) = absurd (first.0 second.0)
code_unique (Contained one other) m n (inr first) (inr second) = sym first.1 ∙ second.1

-- that of work is none of a refusal
work_code : (a : Answer) (n : ℕ) → IsWork a → HasCode a n → (0 ≡ n) ⊎ (7 ≡ n)
work_code Untold n work has = absurd work
work_code (Refused refusal) n work has = absurd work
work_code (Wrote out log) n work has = inl has
work_code (Compared p one other) n work (inl has) = inl has.1
work_code (Compared p one other) n work (inr has) = inr has.1
work_code (Contained one other) n work (inl has) = inl has.1
work_code (Contained one other) n work (inr has) = inr has.1

-- ---- the answer no

-- of refusals only one has the status of the answer no
refused-no : (refusal : Refusal) (command : Option Command) (code : ℕ) → code ≡ refusal_code refusal → IsOfWords refusal command → code ≡ 7 → IsSuggest command
refused-no Usage command code is words seven = absurd (omega arith)
refused-no (LineWord bad) command code is words seven = absurd words
refused-no ArgsTooLong command code is words seven = absurd words
refused-no (PolicyWord bad) command code is words seven = absurd (omega arith)
refused-no PolicyTooLong command code is words seven = absurd (omega arith)
refused-no (BadFile fault) command code is words seven = absurd (omega arith)
refused-no NoSuchMessage command code is words seven = absurd (omega arith)
refused-no NoSuchSession command code is words seven = absurd (omega arith)
refused-no TooManyEntries command code is words seven = words
refused-no (Message bad) command code is words seven = absurd (omega arith)
refused-no (Text bad) command code is words seven = absurd (omega arith)

refused-none : (refusal : Refusal) (command : Option Command) (code : ℕ) → code ≡ refusal_code refusal → IsOfWords refusal command → code ≡ 0 → ⊥
refused-none Usage command code is words none = omega arith
refused-none (LineWord bad) command code is words none = words
refused-none ArgsTooLong command code is words none = words
refused-none (PolicyWord bad) command code is words none = omega arith
refused-none PolicyTooLong command code is words none = omega arith
refused-none (BadFile fault) command code is words none = omega arith
refused-none NoSuchMessage command code is words none = omega arith
refused-none NoSuchSession command code is words none = omega arith
refused-none TooManyEntries command code is words none = omega arith
refused-none (Message bad) command code is words none = omega arith
refused-none (Text bad) command code is words none = omega arith

-- no command asks for both
one-no : (command : Option Command) → IsSuggest command → IsComparison command → ⊥
one-no None suggest comparison = suggest
one-no (Some (Replay policy recording)) suggest comparison = suggest
one-no (Some (Explain policy recording number)) suggest comparison = suggest
one-no (Some (Twin policy one other)) suggest comparison = suggest
one-no (Some (Sample n seed)) suggest comparison = suggest
one-no (Some (Audit policy recordings)) suggest comparison = suggest
one-no (Some (Within one other)) suggest comparison = suggest
one-no (Some (Suggest recordings)) suggest comparison = comparison
one-no (Some (Show message)) suggest comparison = suggest
one-no (Some (Compose text)) suggest comparison = suggest
one-no (Some (Session recording number)) suggest comparison = suggest
one-no (Some (ListSessions recording)) suggest comparison = suggest
one-no (Some Help) suggest comparison = suggest
one-no (Some Version) suggest comparison = suggest

module _ (command : Option Command) (files files' : FilesView) (out out' err err' : SinkView) (code : ℕ)
    (ends : Ends command files files' out out' err err' code) where
  pub answers-no : code ≡ 7 → IsComparison command ⊎ IsSuggest command
  answers-no seven = elim ends [
    | Done is done log ↦ inl (compared is)
    | Refuses r is agrees words kept said ↦ inr (refused-no r command code is words seven)
    | NoFile path is rose needs kept said ↦ absurd (omega (arith, is, seven))
    | OutFails is rose work front log ↦ absurd (omega (arith, is, seven))
    | LogFails is rose asked work kept log ↦ absurd (omega (arith, is, seven))
    | NoMemory is kept said ↦ absurd (omega (arith, is, seven))
  ]
    where
      compared : IsEnd command code → IsComparison command
      compared (inl none) = absurd (omega (arith, none, seven))
      compared (inr is) = is.1

  pub done-told : IsEnd command code → IsDone (answer_to files.told command) out.told out'.told code × IsLogged files.told command err.told err'.told
  done-told end = elim ends [
    | Done is done log ↦ (done, log)
    | Refuses r is agrees words kept said ↦ absurd (refused r is words end)
    | NoFile path is rose needs kept said ↦ absurd (given end (inl is))
    | OutFails is rose work front log ↦ absurd (given end (inr (inl is)))
    | LogFails is rose asked work kept log ↦ absurd (given end (inr (inl is)))
    | NoMemory is kept said ↦ absurd (given end (inr (inr is)))
  ]
    where
      refused : (r : Refusal) → code ≡ refusal_code r → IsOfWords r command → IsEnd command code → ⊥
      refused r is words (inl none) = refused-none r command code is words none
      refused r is words (inr seven) = one-no command (refused-no r command code is words seven.0) seven.1

      given : IsEnd command code → IsFree code → ⊥
      given (inl none) (inl is) = omega (arith, none, is)
      given (inl none) (inr (inl is)) = omega (arith, none, is)
      given (inl none) (inr (inr is)) = omega (arith, none, is)
      given (inr seven) (inl is) = omega (arith, seven.0, is)
      given (inr seven) (inr (inl is)) = omega (arith, seven.0, is)
      given (inr seven) (inr (inr is)) = omega (arith, seven.0, is)

  pub nothing-told : IsEnd command code ⊎ ((code ≡ 6) ⊎ (out'.told ≡ out.told))
  nothing-told = elim ends [
    | Done is done log ↦ inl is
    | Refuses r is agrees words kept said ↦ inr (inr kept)
    | NoFile path is rose needs kept said ↦ inr (inr kept)
    | OutFails is rose work front log ↦ inr (inl is)
    | LogFails is rose asked work kept log ↦ inr (inr kept)
    | NoMemory is kept said ↦ inr (inr kept)
  ]

module _ (command : Option Command) (files files' : FilesView) (out out' err err' : SinkView) (code : ℕ)
    (ends : Ends command files files' out out' err err' code) (settled : IsSettled (answer_to files.told command)) where
  pub complete : HasCode (answer_to files.told command) code ⊎ IsFree code
  complete = elim ends [
    | Done is done log ↦ inl (done settled).0
    | Refuses r is agrees words kept said ↦ inl (subst (λ a. HasCode a code) (sym (agrees settled)) (sym is))
    | NoFile path is rose needs kept said ↦ inr (inl is)
    | OutFails is rose work front log ↦ inr (inr (inl is))
    | LogFails is rose asked work kept log ↦ inr (inr (inl is))
    | NoMemory is kept said ↦ inr (inr (inr is))
  ]

  -- a status that no fault gives
  comes_of : (this : ℕ) → (IsFree this → ⊥) → code ≡ this → HasCode (answer_to files.told command) this
  comes_of this given is = elim complete [
    | inl has ↦ subst (HasCode (answer_to files.told command)) is has
    | inr free ↦ absurd (given (subst IsFree is free))
  ]

  pub exactly_of_work : (this : ℕ) → (IsFree this → ⊥) → ExactlyOfWork code this (HasCode (answer_to files.told command) this)
  exactly_of_work this given = (
    comes_of this given,
    λ has. elim complete [
      | inl now ↦ inl (code_unique (answer_to files.told command) code this now has)
      | inr free ↦ inr free
    ],
  )

  -- one that no work gives
  pub exactly_of_files : (this : ℕ) → (IsFree this → ⊥) → ((0 ≡ this) ⊎ (7 ≡ this) → ⊥) → ExactlyOfFiles code this (HasCode (answer_to files.told command) this)
  exactly_of_files this given refused = (
    comes_of this given,
    λ has. elim ends [
      | Done is done log ↦ inl (code_unique (answer_to files.told command) code this (done settled).0 has)
      | Refuses r is agrees words kept said ↦ inl (code_unique (answer_to files.told command) code this (subst (λ a. HasCode a code) (sym (agrees settled)) (sym is)) has)
      | NoFile path is rose needs kept said ↦ inr (inl is)
      | OutFails is rose work front log ↦ absurd (refused (work_code (answer_to files.told command) this (work settled) has))
      | LogFails is rose asked work kept log ↦ absurd (refused (work_code (answer_to files.told command) this (work settled) has))
      | NoMemory is kept said ↦ inr (inr is)
    ],
  )

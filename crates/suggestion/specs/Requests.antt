-- Requests as they are gathered from notes.
use Rattle.std.specs.Prelude.{◌≡◌, true, List, [], ◌∷◌}
use Rattle.std.specs.List.{list_all}
use Rattle.policy_args.specs.declared.requests.Asked.{Asked}
use Rattle.policy_suggest.specs.Needs.{asked_in_notes, once, with_requests}
use Rattle.policy_suggest.specs.Suggest.{is_asked}
use Rattle.policy_view.specs.Notes.{Note}

-- the requests in these notes, each once, and each one that a message can make
abbrev pub were_gathered : List Note → List Asked → Type 0
were_gathered notes requests = (requests ≡ once (asked_in_notes notes)) × (list_all is_asked (asked_in_notes notes) ≡ true)

abbrev pub joined_on : List Asked → List (List Asked) → List Asked
joined_on kept [] = kept
joined_on kept (requests ∷ all) = joined_on (with_requests kept requests) all

-- each once
abbrev pub joined : List (List Asked) → List Asked
joined all = joined_on [] all

-- Worked examples of words that name files, and of those that name none.
use Rattle.std.specs.Prelude.{◌≡◌, [], ◌∷◌, codes, refl, map, Some, None}
use Rattle.line_words.specs.Words.{args_path}
use Rattle.line_words.specs.FilesRead.{paths_in}

named : map args_path (codes "--args=7" ∷ codes "--args=0" ∷ codes "--args=2147483647" ∷ codes "--args-file=/dev/fd/7" ∷ codes "--args-file=" ∷ codes "--args-file=x" ∷ [])
    ≡ Some (codes "/dev/fd/7") ∷ Some (codes "/dev/fd/0") ∷ Some (codes "/dev/fd/2147483647") ∷ Some (codes "/dev/fd/7") ∷ Some [] ∷ Some (codes "x") ∷ []
named = refl

-- what is no number of a descriptor names no file
not_named : map args_path (codes "--args=x" ∷ codes "--args=" ∷ codes "--args=07" ∷ codes "--args=2147483648" ∷ codes "--args" ∷ codes "--fd=7" ∷ [] ∷ []) ≡ None ∷ None ∷ None ∷ None ∷ None ∷ None ∷ None ∷ []
not_named = refl

among_others : paths_in (codes "--fd=3" ∷ codes "--args=7" ∷ codes "--args=x" ∷ codes "--args-file=f" ∷ codes "--args=7" ∷ []) ≡ codes "/dev/fd/7" ∷ codes "f" ∷ codes "/dev/fd/7" ∷ []
among_others = refl

-- The files that are found at the paths of listeners, and which of them are removed.
use Rattle.std.specs.Prelude.{ℕ, nat_eq, ◌&&◌, Bool, true, false, List, [], ◌∷◌, Option, Some, None}
use Rattle.proxy_net.specs.declared.bound_files.FileIdentity.{FileIdentity}
use Rattle.proxy_net.specs.declared.bound_files.FileKind.{FileKind}
use Rattle.proxy_net.specs.declared.bound_files.FileKind.TheVariants.{Socket, EmptyFile, Other}
use Rattle.proxy_net.specs.declared.bound_files.FoundFile.{FoundFile}
use Rattle.proxy_net.specs.SystemCalls.{SystemCall, remove}

-- the file of an identity was found
abbrev pub has_identity : FileIdentity → Option FoundFile → Bool
has_identity made None = false
has_identity made (Some file) = nat_eq file.identity.device made.device && nat_eq file.identity.inode made.inode

-- a listen replaces a socket and an empty regular file
abbrev pub is_replaceable_kind : FileKind → Bool
is_replaceable_kind Socket = true
is_replaceable_kind EmptyFile = true
is_replaceable_kind Other = false

abbrev pub is_replaceable : Option FoundFile → Bool
is_replaceable None = false
is_replaceable (Some file) = is_replaceable_kind file.kind

-- the call that removes the file at a path, if that is wanted
abbrev pub removal : Bool → List ℕ → List SystemCall
removal true path = remove path ∷ []
removal false path = []

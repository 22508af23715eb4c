-- What the errors of the system mean to a caller.
use Rattle.std.specs.Prelude.{◌≡◌, ◌⊎◌}
use Rattle.std.specs.declared.io.ErrorKind.{ErrorKind}
use Rattle.std.specs.declared.io.ErrorKind.TheVariants.{NotFound, NotADirectory, IsADirectory}

-- no file has the path: nothing has it, or a part of it is a file, or a folder has it
abbrev pub IsNoFile : ErrorKind → Type 0
IsNoFile kind = (kind ≡ NotFound) ⊎ ((kind ≡ NotADirectory) ⊎ (kind ≡ IsADirectory))

-- no folder has the path: nothing has it, or it is a file or leads through one
abbrev pub IsNoFolder : ErrorKind → Type 0
IsNoFolder kind = (kind ≡ NotFound) ⊎ (kind ≡ NotADirectory)

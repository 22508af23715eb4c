-- What is printed where the words are no command, and with which status.
use Rattle.std.specs.Prelude.{ℕ, List, [], ◌++◌, ◌∷◌, codes}
use Rattle.wd_command.specs.declared.notice.Notice.{Notice}
use Rattle.wd_command.specs.declared.notice.Notice.TheVariants as notice

-- one line: the text with a line end behind it, and then the lines below
abbrev pub line : List ℕ → List ℕ → List ℕ
line text below = text ++ 10 ∷ below

-- the line of a fault
abbrev pub fault_text : List ℕ
fault_text = line (codes "error: command line") []

-- the program's name and version
abbrev pub version_text : List ℕ
version_text = line (codes "workerd 0.1.0") []

-- the program's usage
abbrev pub help_text : List ℕ
help_text =
    line (codes "A server for stateless JavaScript Workers.")
    (line []
    (line (codes "Usage:")
    (line (codes "  workerd serve <config> [<const>] [--threads 1]")
    (line (codes "  workerd check <config> [<const>]")
    (line (codes "  workerd --help")
    (line (codes "  workerd --version")
    (line []
    (line (codes "serve  checks and starts the scripts of a configuration, and serves at its sockets")
    (line (codes "check  checks and starts the scripts, and prints: ok <services> <sockets>")
    (line []
    (line (codes "  <config>     the file of the configuration")
    (line (codes "  <const>      the constant in it, where it has several")
    (line (codes "  --threads 1  the number of threads; one alone is taken")
    (line (codes "  --help       prints this text")
    (line (codes "  --version    prints the name and the version")
    [])))))))))))))))

-- the exit status of what is shown
abbrev pub status_of : Notice → ℕ
status_of notice.Help = 0
status_of notice.Version = 0
status_of notice.Fault = 1

-- what is shown
abbrev pub text_of : Notice → List ℕ
text_of notice.Help = help_text
text_of notice.Version = version_text
text_of notice.Fault = fault_text

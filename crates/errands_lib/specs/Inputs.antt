-- What the program does with its words, with the files that they name, and with standard input.
use Rattle.std.specs.Prelude.{◌≡◌, ◌⊎◌, ℕ, List, [], Option, Result, Ok, Err, IfSome, string_bytes}
use Rattle.errands_lib.specs.declared.job.Job.{Job}
use Rattle.command_words.specs.declared.words.WordFault.{WordFault}
use Rattle.command_words.specs.declared.words.WordFault.TheVariants as word_fault
use Rattle.errands_lib.specs.Asked.{files_of, none, one, two}
use Rattle.errands_lib.specs.Named.{AreTaken, Names}
use Rattle.fleet_text.specs.declared.input.InputFault.{InputFault}
use Rattle.fleet_text.specs.declared.input.InputFault.TheVariants as input_fault
use Rattle.fleet_text.specs.Transfer.{AppendsPrefix}
use Rattle.errands_lib.specs.Laws.{program_laws}
use Rattle.errands_lib.specs.Told.{Failed, IsShown}

-- two files are opened in their order, the second only where the first could be. `opens before name found after` says that what was
-- asked for the file of this name gave what was found
abbrev pub OpensBoth : {I F : Type 0} → (I → List ℕ → Result F InputFault → I → Type 0) → List ℕ → List ℕ → I → I → Result (F × F) InputFault → Type 0
OpensBoth {I} opens first second old new (Ok files) = (mid : I) × opens old first (Ok files.0) mid × opens mid second (Ok files.1) new
OpensBoth {I} {F} opens first second old new (Err why) = opens old first (Err why) new ⊎ ((file : F) × (mid : I) × opens old first (Ok file) mid × opens mid second (Err why) new)

-- a job is done on the files that it names, or on standard input
pub data DoesJob {I F S : Type 0} (opens : I → List ℕ → Result F InputFault → I → Type 0) (reads : I → S → I → Type 0)
    (file_bytes : F → Option (List ℕ)) (input_bytes : S → Option (List ℕ)) (job : Job) (old new : I)
    (old_out new_out old_err new_err : Option (List ℕ)) (status : ℕ) : Type 0 where
  on_input : (input : S) → files_of job ≡ none → reads old input new
      → IfSome (input_bytes input) (λ bytes. IsShown program_laws job bytes [] old_out new_out old_err new_err status)
      → DoesJob opens reads file_bytes input_bytes job old new old_out new_out old_err new_err status
  on_file : (name : List ℕ) (file : F) → files_of job ≡ one name → opens old name (Ok file) new
      → IfSome (file_bytes file) (λ bytes. IsShown program_laws job bytes [] old_out new_out old_err new_err status)
      → DoesJob opens reads file_bytes input_bytes job old new old_out new_out old_err new_err status
  no_file : (name : List ℕ) (why : InputFault) → files_of job ≡ one name → opens old name (Err why) new → new_out ≡ old_out → Failed why old_err new_err status
      → DoesJob opens reads file_bytes input_bytes job old new old_out new_out old_err new_err status
  on_both : (first second : List ℕ) (files : F × F) → files_of job ≡ two first second → OpensBoth opens first second old new (Ok files)
      → IfSome (file_bytes files.0) (λ a. IfSome (file_bytes files.1) (λ b. IsShown program_laws job a b old_out new_out old_err new_err status))
      → DoesJob opens reads file_bytes input_bytes job old new old_out new_out old_err new_err status
  not_both : (first second : List ℕ) (why : InputFault) → files_of job ≡ two first second → OpensBoth opens first second old new (Err why) → new_out ≡ old_out
      → Failed why old_err new_err status
      → DoesJob opens reads file_bytes input_bytes job old new old_out new_out old_err new_err status

-- words that name no job end with status 2 and a prefix of a text about them on the error writer
abbrev pub Refuses : WordFault → Option (List ℕ) → Option (List ℕ) → ℕ → Type 0
Refuses (word_fault.Words text) old_err new_err status = (status ≡ 2) × AppendsPrefix old_err new_err (string_bytes text)
Refuses (word_fault.Help text) old_err new_err status = (status ≡ 2) × AppendsPrefix old_err new_err (string_bytes text)
Refuses word_fault.NoMemory old_err new_err status = Failed input_fault.NoMemory old_err new_err status

-- the words, of which the first is the program's name, are refused, or the job that they name is done
pub data DoesWords {I F S : Type 0} (opens : I → List ℕ → Result F InputFault → I → Type 0) (reads : I → S → I → Type 0)
    (file_bytes : F → Option (List ℕ)) (input_bytes : S → Option (List ℕ)) (words : List (List ℕ)) (old new : I)
    (old_out new_out old_err new_err : Option (List ℕ)) (status : ℕ) : Type 0 where
  refused : (fault : WordFault) → (AreTaken words → fault ≡ word_fault.NoMemory) → new ≡ old → new_out ≡ old_out → Refuses fault old_err new_err status
      → DoesWords opens reads file_bytes input_bytes words old new old_out new_out old_err new_err status
  done : (job : Job) → Names words job → DoesJob opens reads file_bytes input_bytes job old new old_out new_out old_err new_err status
      → DoesWords opens reads file_bytes input_bytes words old new old_out new_out old_err new_err status

-- The site of the worked cases: hook 0 belongs to person 1, TIME is kept, and a book of three conditions.
use Rattle.std.specs.Prelude.{ℕ, List, [], ◌∷◌, replicate, Some, None}
use Rattle.faults.specs.declared.Refusal.TheVariants.{NoChain, KeyNotIn}
use Rattle.faults.specs.Faults.{fault}
use Rattle.states.specs.declared.report.Report.{Report}
use Rattle.states.specs.States.{kept}
use Rattle.grants.specs.declared.Mode.{Mode}
use Rattle.books.specs.Books.{book_says}
use Rattle.plain.specs.Record.{World, Call, Fit, Issue, Answer, Refused, new, run, answers, whole}

-- 2: TIME lies from 480 to 1080; 3: it does not; 4: PATH is 1
abbrev pub site_book : List ℕ
site_book =
    0xC1 ∷ 0 ∷ 6 ∷ 0xB1 ∷ 2 ∷ 1 ∷ 224 ∷ 4 ∷ 56
    ∷ 0xC1 ∷ 0 ∷ 7 ∷ 0xB1 ∷ 2 ∷ 1 ∷ 224 ∷ 4 ∷ 56 ∷ 0xB5
    ∷ 0xC1 ∷ 0 ∷ 6 ∷ 0xB1 ∷ 5 ∷ 0 ∷ 1 ∷ 0 ∷ 1 ∷ []

-- what is told: nothing, the minute of the day, the panel
abbrev pub nothing : Report
nothing = record { time = None; day = None; groups = None; path = None; level = None; status = None }

abbrev pub at : ℕ → Report
at t = record { time = Some t; day = None; groups = None; path = None; level = None; status = None }

abbrev pub panel : ℕ → Report
panel n = record { time = None; day = None; groups = None; path = Some n; level = None; status = None }

-- hook 0 belongs to person 1, and TIME (bit 2) is kept
abbrev pub fitting : Call
fitting = Fit (1 ∷ replicate 31 0) 4

-- an issue on hook 0
abbrev pub issue : ℕ → ℕ → ℕ → ℕ → Mode → Report → Call
issue caller grantee execute onward mode told = Issue caller 0 grantee (record { execute = execute; onward = onward; mode = mode; report = told })

-- no chain; the key of hook 0 is not in
abbrev pub unjustified : Answer
unjustified = Refused (fault NoChain 0)

abbrev pub not_in : Answer
not_in = Refused (fault KeyNotIn 0)

-- the plain record of the fitting and these calls, and the answers to the calls, under the book bs of three conditions
abbrev pub after : List ℕ → List Call → World
after bs calls = run 5 (book_says bs 3) whole kept new (fitting ∷ calls)

abbrev pub told : List ℕ → List Call → List Answer
told bs calls = answers 5 (book_says bs 3) whole kept new (fitting ∷ calls)

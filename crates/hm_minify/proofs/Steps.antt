-- How the steps of a run make its course.
use Rattle.std.proofs.Common.{◌≡◌, ℕ, ◌≤◌, ◌⊎◌, inl, inr, false, List, Some, None, refl, sym, ap, ◌∙◌, subst, arith}
use Rattle.std.specs.declared.option.Option.{Option}
use Rattle.hm_store.specs.Causes.{Rose}
use Rattle.hm_store.specs.Contents.{Contents, Sees, Tells}
use Rattle.hm_store.specs.Files.{FileMap, file_of}
use Rattle.hm_words.proofs.Unasked.{asked_is_no_notice, notice_asks_nothing}
use Rattle.hm_words.specs.Words.{Asked, asked, notice_in}
use Rattle.hm_words.specs.Answers.{request_of}
use Rattle.hm_words.specs.declared.notices.Notice.{Notice}
use Rattle.hm_words.specs.declared.words.Asked as requests
use Rattle.hm_minify.specs.Endings.{Ending, says, store_fault, is_fault, IsReadable, IsReadableAsked, asked_ending, request_ending, words_ending, ending}
use Rattle.hm_minify.specs.Wanted.{input_of}
use Rattle.hm_minify.specs.Lines.{notice_text, usage_line, store_line}
use Rattle.hm_minify.specs.Outside.{Outside, StoreFails}
use Rattle.hm_minify.specs.Runs.{Puts, Finishes, Course, written, missing, stopped}
use Rattle.hm_minify.specs.Writes.{after_writes, IsLeft}
use Rattle.hm_minify.specs.declared.status.Status.{Status}
use Rattle.hm_minify.specs.declared.status.Status.TheVariants as status
use Rattle.hm_minify.proofs.Courses.{none_left}

rose_before : (f f_mid f_new : ℕ) → f ≤ f_mid → Rose f_mid f_new → Rose f f_new
rose_before f f_mid f_new h (inl l) = inl (omega arith)
rose_before f f_mid f_new h (inr m) = inr m

-- the ending of words that ask for something, and of words that ask for nothing
pub ending_of_asked : (words : List (List ℕ)) (x : Asked) (seen : Contents) → asked words ≡ Some x → ending words seen ≡ asked_ending x seen
ending_of_asked words x seen asks = ap (λ n. words_ending n (asked words) seen) (asked_is_no_notice words x asks) ∙ ap (λ y. request_ending y seen) asks

pub ending_of_none : (words : List (List ℕ)) (seen : Contents) → asked words ≡ None → notice_in words ≡ None → ending words seen ≡ says status.Usage usage_line
ending_of_none words seen none silent = ap (λ n. words_ending n (asked words) seen) silent ∙ ap (λ y. request_ending y seen) none

pub ending_of_notice : (words : List (List ℕ)) (n : Notice) (seen : Contents) → notice_in words ≡ Some n → ending words seen ≡ says status.Done (notice_text n)
ending_of_notice words n seen is = ap (λ x. words_ending x (asked words) seen) is

-- a line is put, and nothing is done
course_said : (words : List (List ℕ)) (said : Status) (line : List ℕ) (r : Status) (b a : Outside) → is_fault said ≡ false → asked words ≡ None → ending words (file_of b.files) ≡ says said line → a.files ≡ b.files → Puts line said r b a → Course (ending words) (IsReadableAsked (asked words)) r b a
course_said words said line r b a answers none is same p =
    written (record {
      seen = file_of b.files;
      are_told = λ _ _. refl;
      holds = (
        ap (λ (x : Ending). is_fault x.status) is ∙ answers,
        same ∙ ap (λ (x : Ending). after_writes b.files x.writes) (sym is),
        subst (λ (x : Ending). Puts x.line x.status r b a) (sym is) p,
        subst (λ x. IsReadableAsked x (file_of b.files)) (sym none) tt,
      );
    })

pub course_unasked : (words : List (List ℕ)) (r : Status) (b a : Outside) → asked words ≡ None → notice_in words ≡ None → a.files ≡ b.files → Puts usage_line status.Usage r b a → Course (ending words) (IsReadableAsked (asked words)) r b a
course_unasked words r b a none silent same p = course_said words status.Usage usage_line r b a refl none (ending_of_none words (file_of b.files) none silent) same p

pub course_noticed : (words : List (List ℕ)) (n : Notice) (r : Status) (b a : Outside) → notice_in words ≡ Some n → a.files ≡ b.files → Puts (notice_text n) status.Done r b a → Course (ending words) (IsReadableAsked (asked words)) r b a
course_noticed words n r b a is same p = course_said words status.Done (notice_text n) r b a refl (notice_asks_nothing words n is) (ending_of_notice words n (file_of b.files) is) same p

-- while a request is worked on, calls on the store may fail, and nothing else outside changes
abbrev pub worked : Outside → Option FileMap → ℕ → Outside
worked b files faults = record b { files = files; file_faults = faults }

pub course_finished : (words : List (List ℕ)) (x : requests.Asked) (ended : Ending) (r : Status) (b a : Outside) (mid : Option FileMap) (f : ℕ) → asked words ≡ Some (request_of x) → Sees b.files (λ seen. (ended ≡ asked_ending (request_of x) seen) × IsReadable (request_of x) (input_of (request_of x) seen))
    → is_fault ended.status ≡ false → mid ≡ b.files → b.file_faults ≤ f → Finishes ended r (worked b mid f) a → Course (ending words) (IsReadableAsked (asked words)) r b a
course_finished words x ended r b a mid f asks w answers same h (inl q) =
    let is : ended ≡ ending words w.seen = w.holds.0 ∙ sym (ending_of_asked words (request_of x) w.seen asks) in
    written (record {
      seen = w.seen;
      are_told = w.are_told;
      holds = (subst (λ (x : Ending). is_fault x.status ≡ false) is answers, q.0 ∙ ap (λ m. after_writes m ended.writes) same ∙ ap (λ (x : Ending). after_writes b.files x.writes) is, subst (λ (x : Ending). Puts x.line x.status r b a) is q.1, subst (λ y. IsReadableAsked y w.seen) (sym asks) w.holds.1);
    })
course_finished words x ended r b a mid f asks w answers same h (inr q) =
    let is : ended ≡ ending words w.seen = w.holds.0 ∙ sym (ending_of_asked words (request_of x) w.seen asks) in
    stopped (record { seen = w.seen; are_told = w.are_told; holds = subst (λ (x : Ending). IsLeft b.files x.writes a.files) is (subst (λ m. IsLeft m ended.writes a.files) same q.0) }) (rose_before b.file_faults f a.file_faults h q.1) q.2

pub course_stopped : (words : List (List ℕ)) (x : requests.Asked) (r : Status) (b a : Outside) → asked words ≡ Some (request_of x) → a.files ≡ b.files → StoreFails b a ⊎ Tells b.files (λ seen. asked_ending (request_of x) seen ≡ store_fault)
    → Puts store_line status.StoreFault r b a → Course (ending words) (IsReadableAsked (asked words)) r b a
course_stopped words x r b a asks same (inl rose) p = stopped (record { seen = file_of b.files; are_told = λ _ _. refl; holds = none_left b.files (ending words (file_of b.files)).writes a.files same }) rose p
course_stopped words x r b a asks same (inr t) p = missing (record { some = t.some; holds = ending_of_asked words (request_of x) (file_of b.files) asks ∙ t.holds }) same p

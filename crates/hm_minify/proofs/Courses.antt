-- What follows from how a run goes.
use Rattle.std.proofs.Common.{◌≡◌, ℕ, ◌⊎◌, inl, inr, true, false, List, [], ◌∷◌, refl, sym, ap, ◌∙◌, subst}
use Rattle.std.specs.declared.option.Option.{Option}
use Rattle.std.specs.Io.KnownBytes.{append_known}
use Rattle.hm_store.specs.Contents.{Contents, Sees, Tells}
use Rattle.hm_store.specs.Files.{FileMap, file_of, with_file}
use Rattle.hm_minify.specs.Endings.{Ending, is_fault}
use Rattle.hm_minify.specs.Lines.{store_line}
use Rattle.hm_minify.specs.Outside.{Outside, Prints, PrintsFront, SinkFails, StoreFails}
use Rattle.hm_minify.specs.Runs.{EndsAs, Puts, Course, written, missing, stopped, unready}
use Rattle.hm_minify.specs.Writes.{Write, after_writes, IsLeft}
use Rattle.hm_minify.specs.declared.status.Status.{Status}
use Rattle.hm_minify.specs.declared.status.Status.TheVariants as status

-- ---- a line

pub put_says : (line : List ℕ) (said r : Status) (b a : Outside) → Puts line said r b a → (r ≡ status.SinkFault → ⊥) → (r ≡ said) × Prints line b a
put_says line said r b a (inl p) n = p
put_says line said r b a (inr p) n = absurd (n p.0)

pub put_quiet : (line : List ℕ) (said r : Status) (b a : Outside) → Puts line said r b a → (SinkFails b a → ⊥) → (r ≡ said) × Prints line b a
put_quiet line said r b a (inl p) n = p
put_quiet line said r b a (inr p) n = absurd (n p.2)

pub put_front : (line : List ℕ) (said r : Status) (b a : Outside) → Puts line said r b a → r ≡ status.SinkFault → (said ≡ status.SinkFault → ⊥) → PrintsFront line b a × SinkFails b a
put_front line said r b a (inl p) e n = absurd (n (sym p.0 ∙ e))
put_front line said r b a (inr p) e n = (p.1, p.2)

-- ---- faults

pub no_sink : (r : Status) → is_fault r ≡ false → r ≡ status.SinkFault → ⊥
no_sink r a e = let h : is_fault r ≡ true = ap is_fault e in cc

no_store : (r : Status) → is_fault r ≡ false → r ≡ status.StoreFault → ⊥
no_store r a e = let h : is_fault r ≡ true = ap is_fault e in cc

no_memory : (r : Status) → is_fault r ≡ false → r ≡ status.OutOfMemory → ⊥
no_memory r a e = let h : is_fault r ≡ true = ap is_fault e in cc

-- a status with which the line of a store's fault goes is no answer
said_fault : (r : Status) (b a : Outside) → Puts store_line status.StoreFault r b a → is_fault r ≡ false → ⊥
said_fault r b a (inl p) h = no_store r h p.0
said_fault r b a (inr p) h = no_sink r h p.0

-- nor is it lack of memory
said_no_memory : (line : List ℕ) (said r : Status) (b a : Outside) → Puts line said r b a → (said ≡ status.OutOfMemory → ⊥) → r ≡ status.OutOfMemory → ⊥
said_no_memory line said r b a (inl p) n e = n (sym p.0 ∙ e)
said_no_memory line said r b a (inr p) n e = let h : status.SinkFault ≡ status.OutOfMemory = sym p.0 ∙ e in cc

store_is_no_sink : (r : Status) → r ≡ status.StoreFault → r ≡ status.SinkFault → ⊥
store_is_no_sink r e h = let x : status.StoreFault ≡ status.SinkFault = sym e ∙ h in cc

fault_is_no_sink : status.StoreFault ≡ status.SinkFault → ⊥
fault_is_no_sink e = cc

fault_is_no_memory : status.StoreFault ≡ status.OutOfMemory → ⊥
fault_is_no_memory e = cc

-- ---- files

pub all_left : (old : Option FileMap) (ws : List Write) (new : Option FileMap) → new ≡ after_writes old ws → IsLeft old ws new
all_left old [] new e = e
all_left old (w ∷ ws) new e = inr (inr (all_left (with_file old w.name w.bytes) ws new e))

pub none_left : (old : Option FileMap) (ws : List Write) (new : Option FileMap) → new ≡ old → IsLeft old ws new
none_left old [] new e = e
none_left old (w ∷ ws) new e = inl e

-- ---- contents

told_seen : (old : Option FileMap) (P : Contents → Type 0) → P (file_of old) → Sees old P
told_seen old P p = record { seen = file_of old; are_told = λ _ _. refl; holds = p }

-- ---- the clauses

pub answer : (e : Contents → Ending) (R : Contents → Type 0) (r : Status) (b a : Outside) → Course e R r b a → is_fault r ≡ false → Sees b.files (λ seen. EndsAs (e seen) r b a)
answer e R r b a (written w) h =
    let p = put_says (e w.seen).line (e w.seen).status r b a w.holds.2 (no_sink r h) in
    record { seen = w.seen; are_told = w.are_told; holds = record { status = p.0; files = w.holds.1; line = p.1 } }
answer e R r b a (missing t same p) h = absurd (said_fault r b a p h)
answer e R r b a (stopped w rose p) h = absurd (said_fault r b a p h)
answer e R r b a (unready m same sink) h = absurd (no_memory r h m)

pub answered : (e : Contents → Ending) (R : Contents → Type 0) (r : Status) (b a : Outside) → Course e R r b a → is_fault r ≡ false → Sees b.files (λ seen. EndsAs (e seen) r b a × R seen)
answered e R r b a (written w) h =
    let p = put_says (e w.seen).line (e w.seen).status r b a w.holds.2 (no_sink r h) in
    record { seen = w.seen; are_told = w.are_told; holds = (record { status = p.0; files = w.holds.1; line = p.1 }, w.holds.3) }
answered e R r b a (missing t same p) h = absurd (said_fault r b a p h)
answered e R r b a (stopped w rose p) h = absurd (said_fault r b a p h)
answered e R r b a (unready m same sink) h = absurd (no_memory r h m)

pub complete : (e : Contents → Ending) (R : Contents → Type 0) (r : Status) (b a : Outside) → Course e R r b a → (StoreFails b a → ⊥) → (SinkFails b a → ⊥)
    → (r ≡ status.OutOfMemory) ⊎ Sees b.files (λ seen. EndsAs (e seen) r b a)
complete e R r b a (written w) still quiet =
    let p = put_quiet (e w.seen).line (e w.seen).status r b a w.holds.2 quiet in
    inr (record { seen = w.seen; are_told = w.are_told; holds = record { status = p.0; files = w.holds.1; line = p.1 } })
complete e R r b a (missing t same p) still quiet =
    let q = put_quiet store_line status.StoreFault r b a p quiet in
    inr (told_seen b.files (λ seen. EndsAs (e seen) r b a) (record {
      status = q.0 ∙ ap (λ (x : Ending). x.status) (sym t.holds);
      files = same ∙ ap (λ (x : Ending). after_writes b.files x.writes) (sym t.holds);
      line = q.1 ∙ ap (λ (x : Ending). append_known b.printed x.line) (sym t.holds);
    }))
complete e R r b a (stopped w rose p) still quiet = absurd (still rose)
complete e R r b a (unready m same sink) still quiet = inl m

pub whole : (e : Contents → Ending) (R : Contents → Type 0) (r : Status) (b a : Outside) → Course e R r b a → (StoreFails b a → ⊥) → (r ≡ status.OutOfMemory → ⊥) → Sees b.files (λ seen. a.files ≡ after_writes b.files (e seen).writes)
whole e R r b a (written w) still m = record { seen = w.seen; are_told = w.are_told; holds = w.holds.1 }
whole e R r b a (missing t same p) still m = told_seen b.files (λ seen. a.files ≡ after_writes b.files (e seen).writes) (same ∙ ap (λ (x : Ending). after_writes b.files x.writes) (sym t.holds))
whole e R r b a (stopped w rose p) still m = absurd (still rose)
whole e R r b a (unready is same sink) still m = absurd (m is)

pub left : (e : Contents → Ending) (R : Contents → Type 0) (r : Status) (b a : Outside) → Course e R r b a → Sees b.files (λ seen. IsLeft b.files (e seen).writes a.files)
left e R r b a (written w) = record { seen = w.seen; are_told = w.are_told; holds = all_left b.files (e w.seen).writes a.files w.holds.1 }
left e R r b a (missing t same p) = told_seen b.files (λ seen. IsLeft b.files (e seen).writes a.files) (none_left b.files (e (file_of b.files)).writes a.files same)
left e R r b a (stopped w rose p) = w
left e R r b a (unready m same sink) = told_seen b.files (λ seen. IsLeft b.files (e seen).writes a.files) (none_left b.files (e (file_of b.files)).writes a.files same)

pub store_cause : (e : Contents → Ending) (R : Contents → Type 0) (r : Status) (b a : Outside) → Course e R r b a → r ≡ status.StoreFault → StoreFails b a ⊎ Tells b.files (λ seen. (e seen).status ≡ status.StoreFault)
store_cause e R r b a (written w) is =
    let p = put_says (e w.seen).line (e w.seen).status r b a w.holds.2 (store_is_no_sink r is) in
    absurd (no_store (e w.seen).status w.holds.0 (sym p.0 ∙ is))
store_cause e R r b a (missing t same p) is = inr (record { some = t.some; holds = ap (λ (x : Ending). x.status) t.holds })
store_cause e R r b a (stopped w rose p) is = inl rose
store_cause e R r b a (unready m same sink) is = absurd (fault_is_no_memory (sym is ∙ m))

pub store_said : (e : Contents → Ending) (R : Contents → Type 0) (r : Status) (b a : Outside) → Course e R r b a → r ≡ status.StoreFault → Prints store_line b a
store_said e R r b a (written w) is =
    let p = put_says (e w.seen).line (e w.seen).status r b a w.holds.2 (store_is_no_sink r is) in
    absurd (no_store (e w.seen).status w.holds.0 (sym p.0 ∙ is))
store_said e R r b a (missing t same p) is = (put_says store_line status.StoreFault r b a p (store_is_no_sink r is)).1
store_said e R r b a (stopped w rose p) is = (put_says store_line status.StoreFault r b a p (store_is_no_sink r is)).1
store_said e R r b a (unready m same sink) is = absurd (fault_is_no_memory (sym is ∙ m))

pub sink_cause : (e : Contents → Ending) (R : Contents → Type 0) (r : Status) (b a : Outside) → Course e R r b a → r ≡ status.SinkFault → SinkFails b a
sink_cause e R r b a (written w) is = (put_front (e w.seen).line (e w.seen).status r b a w.holds.2 is (no_sink (e w.seen).status w.holds.0)).1
sink_cause e R r b a (missing t same p) is = (put_front store_line status.StoreFault r b a p is fault_is_no_sink).1
sink_cause e R r b a (stopped w rose p) is = (put_front store_line status.StoreFault r b a p is fault_is_no_sink).1
sink_cause e R r b a (unready m same sink) is = let x : status.SinkFault ≡ status.OutOfMemory = sym is ∙ m in cc

pub sink_front : (e : Contents → Ending) (R : Contents → Type 0) (r : Status) (b a : Outside) → Course e R r b a → r ≡ status.SinkFault
    → (StoreFails b a × PrintsFront store_line b a) ⊎ Sees b.files (λ seen. PrintsFront (e seen).line b a)
sink_front e R r b a (written w) is = inr (record { seen = w.seen; are_told = w.are_told; holds = (put_front (e w.seen).line (e w.seen).status r b a w.holds.2 is (no_sink (e w.seen).status w.holds.0)).0 })
sink_front e R r b a (missing t same p) is =
    inr (told_seen b.files (λ seen. PrintsFront (e seen).line b a) (subst (λ (x : Ending). PrintsFront x.line b a) (sym t.holds) (put_front store_line status.StoreFault r b a p is fault_is_no_sink).0))
sink_front e R r b a (stopped w rose p) is = inl (rose, (put_front store_line status.StoreFault r b a p is fault_is_no_sink).0)
sink_front e R r b a (unready m same sink) is = let x : status.SinkFault ≡ status.OutOfMemory = sym is ∙ m in cc

pub memory : (e : Contents → Ending) (R : Contents → Type 0) (r : Status) (b a : Outside) → Course e R r b a → r ≡ status.OutOfMemory → (a.files ≡ b.files) × (a.printed ≡ b.printed)
memory e R r b a (written w) is = absurd (said_no_memory (e w.seen).line (e w.seen).status r b a w.holds.2 (no_memory (e w.seen).status w.holds.0) is)
memory e R r b a (missing t same p) is = absurd (said_no_memory store_line status.StoreFault r b a p fault_is_no_memory is)
memory e R r b a (stopped w rose p) is = absurd (said_no_memory store_line status.StoreFault r b a p fault_is_no_memory is)
memory e R r b a (unready m same sink) is = (same, sink)

-- The kinds of words, by name.
use Rattle.std.specs.Prelude.{ℕ, List, Option, Some, None, codes, if◌then◌else◌}
use Rattle.std.specs.Str.{bytes_eq}
use Rattle.lock_words.specs.declared.kinds.Kind.{Kind}
use Rattle.lock_words.specs.declared.kinds.Kind.TheVariants.{Mutex, Semaphore, Spin, WideSpin, Queue, Percpu}

abbrev pub kind_named : List ℕ → Option Kind
kind_named w =
    if bytes_eq w (codes "mutex") then Some Mutex
    else if bytes_eq w (codes "rwsem") then Some Semaphore
    else if bytes_eq w (codes "spin") then Some Spin
    else if bytes_eq w (codes "spin-16k") then Some WideSpin
    else if bytes_eq w (codes "osq") then Some Queue
    else if bytes_eq w (codes "percpu") then Some Percpu
    else None

abbrev pub kind_text : Kind → List ℕ
kind_text Mutex = codes "mutex"
kind_text Semaphore = codes "rwsem"
kind_text Spin = codes "spin"
kind_text WideSpin = codes "spin-16k"
kind_text Queue = codes "osq"
kind_text Percpu = codes "percpu"

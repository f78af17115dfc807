-- What a mutex's pass shows to callers of any lock.
use Rattle.word_bits.specs.Objects.{Obj}
use Rattle.lock_core.specs.Shown.{Stands}
use Rattle.lock_core.specs.Sitting.{SitsIdle}
use Rattle.sleep_lock.specs.Laws.Lock.{site-stands}
use Rattle.mutex_slow.specs.declared.calls.Mutex.{Mutex}
use Rattle.mutex_slow.specs.declared.calls.MutexPass.{MutexPass}
use Rattle.mutex_slow.specs.MutexHandles.{plan_of, shown_of, SitsAt}
use Rattle.mutex_slow.specs.MutexPlaces.{line_of}

pub mutex-stands : {Call O C : Type 0} (o : Obj Call) (lock : Mutex O C) (pass : MutexPass O C) → SitsIdle o (plan_of lock) (SitsAt lock pass) → Stands (plan_of lock) (shown_of pass)
mutex-stands o lock pass r = site-stands line_of _ _ _ lock.site pass.pass r.own.sits r.own.unspun

-- What a semaphore's pass shows to callers of any lock.
use Rattle.word_bits.specs.Objects.{Obj}
use Rattle.lock_core.specs.Shown.{Stands}
use Rattle.lock_core.specs.Sitting.{SitsIdle}
use Rattle.sleep_lock.specs.Laws.Lock.{site-stands}
use Rattle.rwsem_wake.specs.RwSemPlaces.{line_of}
use Rattle.rwsem_slow.specs.declared.calls.RwSem.{RwSem}
use Rattle.rwsem_slow.specs.declared.calls.RwPass.{RwPass}
use Rattle.rwsem_slow.specs.RwSemHandles.{plan_of, shown_of, SitsAt}

pub rwsem-stands : {Call O C : Type 0} (o : Obj Call) (lock : RwSem O C) (pass : RwPass O C) → SitsIdle o (plan_of lock) (SitsAt lock pass) → Stands (plan_of lock) (shown_of pass)
rwsem-stands o lock pass r = site-stands line_of _ _ _ lock.site pass.pass r.own.sits r.own.unspun

-- The types that this crate speaks of, with their variants, from one place.
pub use Rattle.cpu_task.specs.declared.park.ParkCpu.{ParkCpu}
pub use Rattle.cpu_task.specs.declared.park.ParkCrew.{ParkCrew}
pub use Rattle.fd_table.specs.declared.call.TableCall.{TableCall}
pub use Rattle.fd_table.specs.declared.fds.Fds.{Fds}
pub use Rattle.lock_core.specs.declared.view.Hand.{Hand}
pub use Rattle.lock_core.specs.declared.view.Moment.{Moment}
pub use Rattle.mm_serve.specs.declared.machine.Machine.{Machine}
pub use Rattle.mm_serve.specs.declared.space_or_table.SpaceOrTablePass.{SpaceOrTablePass}
pub use Rattle.mm_serve.specs.declared.space_or_table.SpaceOrTablePass.TheVariants.{OfSpace, OfTable}
pub use Rattle.mm_serve.specs.declared.space_or_table.SpaceOrTable.TheVariants.{Space, Table}
pub use Rattle.task_script.specs.declared.reader.ScriptError.{ScriptError}
pub use Rattle.task_script.specs.declared.reason.Reason.{Reason}
pub use Rattle.task_script.specs.declared.reason.Reason.TheVariants.{Access, Byte, Call, Limit, Mode, Name, Number, Place, Prot, TooLong, Twice, Unknown, Version, Words}
pub use Rattle.vma_map.specs.declared.areas.Areas.{Areas}
pub use Rattle.vma_map.specs.declared.call.SpaceCall.{SpaceCall}
pub use Rattle.wait_list.specs.declared.view.Waiter.{Waiter}
